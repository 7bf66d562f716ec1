-- When a card is lawful.
use Rattle.std.specs.Prelude.{◌≡◌, ℕ, ◌<◌, ◌≤◌, Bool, true, length}
use Rattle.card.specs.declared.types.Card.{Card}
use Rattle.card.specs.Cards.{Frame, boundaries, period_of, run_time_of}

pub record Lawful (card : Card) : Type 0 where
  pub periods : (i : ℕ) → i < card.count → (1 ≤ period_of card i) × (period_of card i ≤ 1000000)
  pub runs : (i : ℕ) → i < card.count → (1 ≤ run_time_of card i) × (run_time_of card i ≤ period_of card i)
  pub frame : ℕ
  pub is_frame : Frame card frame
  pub short : frame ≤ 1000000
  pub few : length (boundaries card frame) ≤ 128

-- ok is true exactly when P holds
pub record Exactly (P : Type 0) (ok : Bool) : Type 0 where
  pub to : ok ≡ true → P
  pub from : P → ok ≡ true
