-- What the code's trailer says of the bytes that it was read from.
use Rattle.std.specs.Prelude.{◌≡◌, ℕ, ◌-◌, true, false, List, length, drop, nat_lt}
use Rattle.plan.specs.declared.trailer.Trailer.{Trailer}
use Rattle.plan.specs.File.{trailer_bytes, card_at, sheet_at, cores_in, count_in, rows_in, laid_out, within_limits}

pub record Read (bs : List ℕ) (t : Trailer) : Type 0 where
  pub long : nat_lt (length bs) 12 ≡ false
  pub card : t.card ≡ card_at bs
  pub sheet : t.sheet ≡ sheet_at bs
  pub cores : t.cores ≡ cores_in bs
  pub count : t.count ≡ count_in bs
  pub rows : t.rows ≡ rows_in bs
  pub back : trailer_bytes t.card t.sheet t.cores t.count t.rows ≡ drop (length bs - 12) bs

-- counts, offsets and length agree
pub record Agrees (size : ℕ) (t : Trailer) : Type 0 where
  pub counts : within_limits t.cores t.count t.rows ≡ true
  pub layout : laid_out size t.card t.sheet t.count t.rows ≡ true
