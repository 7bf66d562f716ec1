-- Switches seat by seat, and one account changed among the others.
use Rattle.std.proofs.Common.{◌≡◌, ℕ, zero, suc, ◌+◌, cond, not, ◌&&◌, eqb, [], ◌∷◌, length, replicate, count_by, sym, refl, ap, ◌∙◌, arith}
use Rattle.std.specs.List.{zip}
use Rattle.std.proofs.lemmas.List.Sums.{sum_by-cons}
use Rattle.chart.specs.Charts.{Row}
use Rattle.dispatch.specs.Counts.{changed, switches_core}

-- a core with the task x, which had y
abbrev pub switch_to : ℕ → ℕ → ℕ
switch_to x y = cond (not (eqb x 0) && not (eqb x y)) 1 0

-- so many are the cores that switch, of those side by side
pub changed_zip : (before seats : Row) → length before ≡ length seats → changed before seats ≡ count_by switches_core (zip before seats)
changed_zip [] [] e = refl
changed_zip [] (x ∷ seats) e = absurd (omega (arith, e))
changed_zip (y ∷ before) [] e = absurd (omega (arith, e))
changed_zip (y ∷ before) (x ∷ seats) e = ap (λ (k : ℕ). switch_to x y + k) (changed_zip before seats (omega (arith, e))) ∙ sym (sum_by-cons (λ p. cond (switches_core p) 1 0) (y, x) (zip before seats))

-- idle cores before are as good as none
pub changed_idle : (n : ℕ) (seats : Row) → changed (replicate n 0) seats ≡ changed [] seats
changed_idle n [] = refl
changed_idle zero (x ∷ seats) = refl
changed_idle (suc n) (x ∷ seats) = ap (λ (k : ℕ). switch_to x 0 + k) (changed_idle n seats)
