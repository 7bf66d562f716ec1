use Rattle.std.proofs.Common.{◌≡◌, ℕ, ◌+◌, ◌<◌, true, false, ltb, length, get_or, take, sum, sym, ap, ◌∙◌, arith}
use Rattle.std.proofs.lemmas.List.{at_drop_more, at_drop_all, take_all}
use Rattle.std.proofs.lemmas.List.Sums.{sum_by_more}
use Rattle.std.proofs.lemmas.Bool.{cond-true, cond-false}
use Rattle.refusal.specs.Table.{numbered}
use Rattle.sheet.specs.Verdicts.{judged_shares}
use Rattle.sheet.proofs.judge.row_total.Goals as goal

pub returns-then-too_wide : goal.returns-then-too_wide
returns-then-too_wide c =
    let xs = c.args.shares.now in
    let i = c.loop-i.i in
    let wide : ltb c.args.len (get_or xs i 0) ≡ true = sym c.if-too_wide.ensures in
    ap numbered (sym (cond-true _ _ _ wide) ∙ sym (at_drop_more (judged_shares c.args.len c.args.interval (i + 1)) xs i 0 (omega arith)) ∙ c.loop-i.invariant.0)

pub loop-i-preserved : goal.loop-i-preserved
loop-i-preserved c =
    let xs = c.args.shares.now in
    let i = c.loop-i.i in
    let h : i < length xs = omega arith in
    let narrow : ltb c.args.len (get_or xs i 0) ≡ false = sym c.if-too_wide.ensures in
    let more : sum (take (i + 1) xs) ≡ sum (take i xs) + get_or xs i 0 = sum_by_more (λ (x : ℕ). x) xs i 0 h in (
      sym (cond-false _ _ _ narrow) ∙ sym (at_drop_more (judged_shares c.args.len c.args.interval (i + 1)) xs i 0 h) ∙ c.loop-i.invariant.0,
      omega arith,
      omega arith,
    )

pub returns : goal.returns
returns c =
    let xs = c.args.shares.now in (
      sym c.loop-i.invariant.0 ∙ at_drop_all (judged_shares c.args.len c.args.interval (c.loop-i.i + 1)) xs c.loop-i.i (omega arith),
      c.loop-i.invariant.1 ∙ ap sum (take_all c.loop-i.i xs (omega arith)),
    )
