-- Passages of no time, one by one.
use Rattle.std.proofs.Common.{◌≡◌, ℕ, zero, suc, ◌+◌, ◌-◌, ◌<◌, eqb, refl, ap, ◌∙◌, arith}
use Rattle.std.proofs.lemmas.Bool.{cond-true, cond-false, eq-eqb, ne_eqb}
use Rattle.izl_rule.specs.Rule.{State, passage, ready}

pub goes_on : (n k : ℕ) (s : State) → k < n → (passage s).0 ≡ 0 → ready (n - k) s ≡ ready (n - (k + 1)) (passage s).1
goes_on n k s l e =
    let m : n - k ≡ suc (n - (k + 1)) = omega arith in
    ap (λ (j : ℕ). ready j s) m ∙ cond-true (eqb (passage s).0 0) (ready (n - (k + 1)) (passage s).1) s (eq-eqb (passage s).0 0 e)

pub stops : (n : ℕ) (s : State) → ((passage s).0 ≡ 0 → ⊥) → ready n s ≡ s
stops zero s d = refl
stops (suc n) s d = cond-false (eqb (passage s).0 0) (ready n (passage s).1) s (ne_eqb (passage s).0 0 d)
