use Rattle.std.proofs.Common.{arith, rules, tests, cond}
use Rattle.std.specs.List.{zip}
use Rattle.std.proofs.lemmas.Iterator.{YieldsList-from_slice, YieldsList-from_map, YieldsList-from_zip}
use Rattle.std.proofs.lemmas.Iterator.Consumers.{YieldsList-at, sum_by_from_yields_List, fits_by_from_yields_list}
use Rattle.std.proofs.lemmas.List.Sums.{count_by-le-length}
use Rattle.std.proofs.lemmas.Slice.Zip.{length-zip}
use Rattle.dispatch.specs.Counts.{switches_core}
use Rattle.dispatch.proofs.accounts.switches.Goals as goal

pub sum-requires-clause-fits : goal.sum-requires-clause-fits
sum-requires-clause-fits c =
    let before = c.args.before.now in
    let seats = c.args.seats.now in
    fits_by_from_yields_list (λ p. cond (switches_core p) 1 0) (zip before seats) c.map.result 18446744073709551616
    (YieldsList-from_map _ _ (YieldsList-at c.map.ensures.source (YieldsList-from_zip (YieldsList-at c.zip.ensures.first (YieldsList-from_slice before (cc))) (YieldsList-from_slice seats (cc)))) c.map.ensures.closure (λ x r q k. search (rules, tests)))
    (omega (arith, count_by-le-length switches_core (zip before seats), length-zip before seats, c.told-before))

pub returns : goal.returns
returns c =
    let before = c.args.before.now in
    let seats = c.args.seats.now in
    sum_by_from_yields_List (λ p. cond (switches_core p) 1 0) (zip before seats) c.map.result c.sum.result c.sum.ensures.ran
    (YieldsList-from_map _ _ (YieldsList-at c.map.ensures.source (YieldsList-from_zip (YieldsList-at c.zip.ensures.first (YieldsList-from_slice before (cc))) (YieldsList-from_slice seats (cc)))) c.map.ensures.closure (λ x r q k. search (rules, tests)))
