-- What the intervals of a card are.
use Rattle.std.specs.Prelude.{◌≡◌, ℕ, List, [], ◌∷◌, ◌++◌, take, slice_index_or}
use Rattle.card.specs.declared.types.Card.{Card}
use Rattle.card.specs.declared.types.Intervals.{Intervals}
use Rattle.card.specs.Cards.{Frame, boundaries}

abbrev pub starts_of : Intervals → List ℕ
starts_of v = take v.count v.starts

-- where interval k begins, and, for the number of the intervals or more, where the last one ends
abbrev pub start_of : Intervals → ℕ → ℕ
start_of v k = slice_index_or (starts_of v ++ v.frame ∷ []) k v.frame

-- the frame length and the boundaries of a card
pub record Times (card : Card) (v : Intervals) : Type 0 where
  pub frame : Frame card v.frame
  pub starts : starts_of v ≡ boundaries card v.frame
