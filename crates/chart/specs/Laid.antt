-- Shares laid end to end on a line of places.
use Rattle.std.specs.Prelude.{ℕ, zero, suc, cond, ◌&&◌, nat_le, nat_lt}
use Rattle.chart.specs.Sums.{upto}

-- The task, from 1, whose stretch of the line holds place p; 0 for none. Of n tasks with the shares s,
-- task i + 1 has the stretch from upto s i up to upto s (i + 1).
abbrev pub whose : (ℕ → ℕ) → ℕ → ℕ → ℕ
whose s zero p = 0
whose s (suc n) p = cond (nat_le (upto s n) p && nat_lt p (upto s (suc n))) (suc n) (whose s n p)
