use Rattle.std.proofs.Common.{◌≡◌, ℕ, ◌+◌, sym, ap, ◌∙◌, arith}
use native.Mathlib.Nat.{pos_of_dvd_of_pos}
use Rattle.card.specs.Verdicts.{gcd_in}
use Rattle.card.proofs.Divisors.{gcd_common}
use Rattle.card.proofs.Euclid.{turn}
use Rattle.card.proofs.frame.gcd.Goals as goal

pub loop-b-preserved : goal.loop-b-preserved
loop-b-preserved c = sym (turn c.loop-b.a c.loop-b.b (omega arith)) ∙ c.loop-b.invariant

pub returns : goal.returns
returns c =
    let a = c.args.a in
    let b = c.args.b in
    let last : c.loop-b.b ≡ 0 = omega arith in
    let is : c.loop-b.a ≡ gcd_in (b + 1) a b = sym (ap (λ (z : ℕ). gcd_in (z + 1) c.loop-b.a z) last) ∙ c.loop-b.invariant in
    record { divisor = is; some = λ l. omega (arith, is, pos_of_dvd_of_pos (gcd_common (b + 1) a b (omega arith)).right l) }
