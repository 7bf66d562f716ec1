-- The sum of a function over the numbers below n.
use Rattle.std.specs.Prelude.{ℕ, zero, suc, ◌+◌}

abbrev pub upto : (ℕ → ℕ) → ℕ → ℕ
upto f zero = 0
upto f (suc n) = upto f n + f n
