-- The task at a place of the line stays the same while no share ends.
use Rattle.std.proofs.Common.{◌≡◌, ℕ, zero, suc, ◌<◌, ◌≤◌, ◌&&◌, ltb, leb, sym, refl, ◌∙◌, ⊎_elim, arith}
use Rattle.std.proofs.lemmas.Bool.{cases_lt, cond_both, and_cases, leb-false, ltb-false}
use Rattle.chart.specs.Sums.{upto}
use Rattle.chart.specs.Laid.{whose}
use Rattle.chart.proofs.Ranges.{upto_rises}
use Rattle.chart.proofs.Laying.{whose_holds, whose_is}

module _ (s : ℕ → ℕ) where
  -- a place with no task is behind all shares
  none_behind : (n p : ℕ) → whose s n p ≡ 0 → upto s n ≤ p
  none_behind zero p = λ _. omega arith
  none_behind (suc n) p = cond_both (leb (upto s n) p && ltb p (upto s (suc n))) (suc n) (whose s n p) (λ w. w ≡ 0 → upto s (suc n) ≤ p)
      (λ _ e. absurd (omega arith))
      (λ t e. ⊎_elim (λ f. absurd (omega (arith, leb-false (upto s n) p f, none_behind n p e))) (λ f. ltb-false p (upto s (suc n)) f) (and_cases (leb (upto s n) p) (ltb p (upto s (suc n))) t))

  pub behind_none : (n p : ℕ) → upto s n ≤ p → whose s n p ≡ 0
  behind_none n p l = at (whose s n p) refl
    where
      at : (w : ℕ) → whose s n p ≡ w → whose s n p ≡ 0
      at zero e = e
      at (suc i) e = let w = whose_holds s n p i e in absurd (omega (arith, w.high, upto_rises s (suc i) n w.there))

  pub steady : (n p q : ℕ) → p ≤ q → ((i : ℕ) → i < n → 0 < s i → p < upto s (suc i) → upto s (suc i) ≤ q → ⊥) → whose s n p ≡ whose s n q
  steady n p q l none = at (whose s n p) refl
    where
      at : (w : ℕ) → whose s n p ≡ w → whose s n p ≡ whose s n q
      at zero e = e ∙ sym (behind_none n q (omega (arith, none_behind n p e)))
      at (suc i) e = let w = whose_holds s n p i e in
          e ∙ sym (whose_is s n q i w.there (omega (arith, w.low)) (⊎_elim (λ h. h) (λ h. absurd (none i w.there (omega (arith, w.low, w.high)) w.high h)) (cases_lt q (upto s (suc i)))))
