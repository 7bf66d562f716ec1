-- Euclid's turns: any number above the divisor is enough, and one turn on the answer is the same.
use Rattle.std.proofs.Common.{◌≡◌, ℕ, zero, suc, ◌+◌, ◌%◌, ◌<◌, eqb, sym, ap, ◌∙◌, add-one, arith}
use native.Mathlib.Nat as law
use Rattle.std.proofs.lemmas.Bool.{cond_both, cond-true, cond-false, eqb-false, ne_eqb}
use Rattle.card.specs.Verdicts.{gcd_in}

pub turns_enough : (n m a b : ℕ) → b < n → b < m → gcd_in n a b ≡ gcd_in m a b
turns_enough zero m a b l k = absurd (omega arith)
turns_enough (suc n) zero a b l k = absurd (omega arith)
turns_enough (suc n) (suc m) a b l k = cond_both (eqb b 0) a (gcd_in n b (a % b)) (λ g. g ≡ gcd_in (suc m) a b)
    (λ z. sym (cond-true (eqb b 0) a (gcd_in m b (a % b)) z))
    (λ nz. let less : a % b < b = law.mod-lt a (law.pos_of_ne-zero (eqb-false b 0 nz)) in
    turns_enough n m b (a % b) (omega arith) (omega arith)
    ∙ sym (cond-false (eqb b 0) a (gcd_in m b (a % b)) nz))

pub turn : (a b : ℕ) → 0 < b → gcd_in (b + 1) a b ≡ gcd_in (a % b + 1) b (a % b)
turn a b some =
    let less : a % b < b = law.mod-lt a some in
    ap (λ (n : ℕ). gcd_in n a b) (add-one b) ∙ cond-false (eqb b 0) a (gcd_in b b (a % b)) (ne_eqb b 0 (λ z. omega arith)) ∙ turns_enough b (a % b + 1) b (a % b) less (omega arith)
