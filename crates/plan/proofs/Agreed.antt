-- What the counts and offsets of a file that passes every check are.
use Rattle.std.proofs.Common.{◌≡◌, ℕ, ◌+◌, ◌*◌, ◌≤◌, true, mul-le-mul, arith}
use Rattle.std.proofs.lemmas.Bool.{and_parts, leb-true, eqb-true}
use Rattle.card.specs.Limits.{counted}
use Rattle.sheet.specs.Sheets.{limited}
use Rattle.plan.specs.File.{laid_out, within_limits}

pub record Counts (m n k : ℕ) : Type 0 where
  pub card : counted m n ≡ true
  pub sheet : limited k n ≡ true
  pub tasks : n ≤ 32
  pub rows : k ≤ 128
  pub cells : k * n ≤ 4096

pub counts : (m n k : ℕ) → within_limits m n k ≡ true → Counts m n k
counts m n k e =
    let tasks : n ≤ 32 = grind (arith, and_parts, leb-true) in
    let rows : k ≤ 128 = grind (arith, and_parts, leb-true) in
    record { card = grind (arith, and_parts); sheet = grind (arith, and_parts); tasks = tasks; rows = rows; cells = mul-le-mul rows tasks }

pub record Layout (size card sheet n k : ℕ) : Type 0 where
  pub note : card ≤ 255
  pub entries : sheet ≡ card + 8 * n
  pub shares : size ≡ sheet + 4 * (k * n) + 12

pub layout : (size card sheet n k : ℕ) → laid_out size card sheet n k ≡ true → Layout size card sheet n k
layout size card sheet n k e = record { note = grind (arith, and_parts, leb-true); entries = grind (arith, and_parts, eqb-true); shares = grind (arith, and_parts, eqb-true) }
