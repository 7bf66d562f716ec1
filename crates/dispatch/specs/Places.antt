-- Where a dispatcher stands, and where it goes from there.
use Rattle.std.specs.Prelude.{ℕ, ◌+◌, ◌^◌, Bool, true, cond, Some, None, Option, nat_lt}
use Rattle.card.specs.declared.types.Card.{Card}
use Rattle.sheet.specs.declared.types.Sheet.{Sheet}
use Rattle.sheet.specs.Held.{asked}
use Rattle.dispatch.specs.declared.place.Place.{Place}
use Rattle.dispatch.specs.declared.place.Place.TheVariants.{Before, In}

-- its interval is one of the sheet that is held
abbrev pub ranged : Option (Card × Sheet) → Place → Bool
ranged o (Before f) = true
ranged o (In f k) = asked true (λ _ sheet. nat_lt k sheet.rows) o

abbrev pub frame_at : Place → ℕ
frame_at (Before f) = f
frame_at (In f k) = f

-- the frame and the interval to load next, of n intervals
abbrev pub target : Place → ℕ → Option (ℕ × ℕ)
target (Before f) n = Some (f, 0)
target (In f k) n = cond (nat_lt (k + 1) n) (Some (f, k + 1)) (cond (nat_lt (f + 1) (2 ^ 32)) (Some (f + 1, 0)) None)
