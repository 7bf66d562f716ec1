-- The rows of a sheet lie in its table.
use Rattle.std.proofs.Common.{ℕ, suc, ◌+◌, ◌*◌, ◌<◌, ◌≤◌, suc-mul, mul-le-mul, arith}

pub rows_room : (rows count : ℕ) → rows ≤ 128 → count ≤ 32 → rows * count ≤ 4096
rows_room rows count r n = mul-le-mul r n

pub row_room : (rows count k : ℕ) → k < rows → rows ≤ 128 → count ≤ 32 → k * count + count ≤ 4096
row_room rows count k l r n = omega (arith, suc-mul k count, rows_room (suc k) count (omega arith) n)
