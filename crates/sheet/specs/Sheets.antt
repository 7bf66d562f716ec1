-- The shares of a sheet. Intervals and tasks count from 0 here.
use Rattle.std.specs.Prelude.{ℕ, ◌+◌, ◌*◌, Bool, cond, ◌&&◌, List, [], take, drop, nat_le, nat_lt, slice_index}
use Rattle.sheet.specs.declared.types.Sheet.{Sheet}

-- the counts that a sheet can have
abbrev pub limited : ℕ → ℕ → Bool
limited rows count = nat_le 1 rows && nat_le rows 128 && nat_le 1 count && nat_le count 32

-- the share of task i in interval k
abbrev pub share : Sheet → ℕ → ℕ → ℕ
share sheet k i = slice_index sheet.shares (k * sheet.count + i)

-- the shares of interval k
abbrev pub row : Sheet → ℕ → List ℕ
row sheet k = take sheet.count (drop (k * sheet.count) sheet.shares)

-- the same, and none past the last interval
abbrev pub row_at : Sheet → ℕ → List ℕ
row_at sheet k = cond (nat_lt k sheet.rows) (row sheet k) []

abbrev pub shares_at : Sheet → ℕ → ℕ
shares_at sheet k = cond (nat_lt k sheet.rows) sheet.count 0
