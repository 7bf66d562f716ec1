-- The busy mask of a row of seats.
use Rattle.std.specs.Prelude.{ℕ, ◌+◌, ◌*◌, cond, ltb, List, [], ◌∷◌, count_by, nat_lt}

-- 1 for a seated core, 0 for an idle one
abbrev pub bit : ℕ → ℕ
bit task = cond (nat_lt 0 task) 1 0

-- the first core's bit lowest
abbrev pub mask : List ℕ → ℕ
mask [] = 0
mask (x ∷ xs) = bit x + 2 * mask xs

abbrev pub seated_cores : List ℕ → ℕ
seated_cores seats = count_by (ltb 0) seats
