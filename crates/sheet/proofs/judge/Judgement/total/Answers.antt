use Rattle.std.proofs.Common.{arith, rules}
use Rattle.std.proofs.lemmas.Iterator.{YieldsList-from_range}
use Rattle.std.proofs.lemmas.Iterator.Adapters.{fits_from_length, at_most_from_yields_List}
use Rattle.std.proofs.lemmas.List.FromFn.{length-range_with_len}
use Rattle.sheet.proofs.judge.Judgement.total.Goals as goal

pub sum-requires-clause-fits : goal.sum-requires-clause-fits
sum-requires-clause-fits c =
    let n = c.rows.result in
    fits_from_length _ _ 128 _ (at_most_from_yields_List (YieldsList-from_range {s = c.map.result.iter} 0 n n (cc) (omega arith)) (omega (arith, length-range_with_len 0 n))) c.map.ensures.closure (omega arith) (λ x r q k. search rules)
