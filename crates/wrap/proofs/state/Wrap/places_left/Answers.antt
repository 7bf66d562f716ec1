use Rattle.std.proofs.Common.{rules, ◌∙◌, arith}
use Rattle.std.proofs.lemmas.Iterator.{YieldsList-from_range, YieldsList-from_map}
use Rattle.std.proofs.lemmas.Iterator.Consumers.{YieldsList-at, sum_from_yields_List, fits_from_yields_list}
use Rattle.wrap.proofs.Room.{places, places_all, places_short}
use Rattle.wrap.proofs.state.Wrap.places_left.Goals as goal

pub sum-requires-clause-fits : goal.sum-requires-clause-fits
sum-requires-clause-fits c =
    let w = c.args.self.now in
    let a = c.args.stretch.now.start in
    let b = c.args.stretch.now.end in
    fits_from_yields_list c.map.result _ (YieldsList-from_map _ (places w a b) (YieldsList-at c.map.ensures.source (YieldsList-from_range 0 w.width w.width (cc) (omega arith))) c.map.ensures.closure (λ x r q k. search rules)) (places_short w a b)

pub returns : goal.returns
returns c =
    let w = c.args.self.now in
    let a = c.args.stretch.now.start in
    let b = c.args.stretch.now.end in
    sum_from_yields_List c.map.result c.sum.result c.sum.ensures.ran (YieldsList-from_map _ (places w a b) (YieldsList-at c.map.ensures.source (YieldsList-from_range 0 w.width w.width (cc) (omega arith))) c.map.ensures.closure (λ x r q k. search rules)) ∙ places_all w a b
