-- The counts that a card can have.
use Rattle.std.specs.Prelude.{ℕ, Bool, ◌&&◌, nat_le}

abbrev pub counted : ℕ → ℕ → Bool
counted cores count = (nat_le 1 cores && nat_le cores 16) && (nat_le 1 count && nat_le count 32)
