use Rattle.std.proofs.Common.{arith, rules, tests, cond, eqb}
use Rattle.std.proofs.lemmas.Iterator.{YieldsList-from_slice, YieldsList-from_map}
use Rattle.std.proofs.lemmas.Iterator.Adapters.{fits_from_length, at_most_from_yields_List}
use Rattle.std.proofs.lemmas.Iterator.Consumers.{sum_by_from_yields_List}
use Rattle.std.proofs.lemmas.List.Sums.{count_by-le-length}
use Rattle.dispatch.proofs.accounts.seats_of.Goals as goal

pub sum-requires-clause-fits : goal.sum-requires-clause-fits
sum-requires-clause-fits c =
    fits_from_length _ _ 16 _ (at_most_from_yields_List (YieldsList-from_slice c.args.seats.now (cc)) (omega (arith, c.told-seats))) c.map.ensures.closure (omega arith) (λ x r q k. search (rules, tests))

pub returns-clause-few : goal.returns-clause-few
returns-clause-few c =
    omega (
      arith,
      c.told-seats,
      count_by-le-length (eqb c.args.task) c.args.seats.now,
      sum_by_from_yields_List (λ x. cond (eqb c.args.task x) 1 0) c.args.seats.now c.map.result c.sum.result c.sum.ensures.ran (YieldsList-from_map _ _ (YieldsList-from_slice c.args.seats.now (cc)) c.map.ensures.closure (λ x r q k. search (rules, tests))),
    )
