-- An answer that tells a judgement, and what it agrees with.
use Rattle.std.specs.Prelude.{◌≡◌, ℕ, Bool, Result, MatchResult, ◌==◌}
use Rattle.refusal.specs.declared.SheetFault.{SheetFault}
use Rattle.refusal.specs.Table.{sheet_told, numbered}
use Rattle.card.specs.declared.types.Card.{Card}
use Rattle.card.specs.Cards.{Frame}
use Rattle.card.specs.Lawful.{Lawful, Exactly}
use Rattle.card.specs.Verdicts.{Judged, fine, judged_card}
use Rattle.sheet.specs.declared.types.Sheet.{Sheet}
use Rattle.sheet.specs.Timetables.{Agrees}
use Rattle.sheet.specs.Verdicts.{Meets}

-- Ok where the judgement is fine, and else its number and place
abbrev pub Tells : {A : Type 0} → Result A SheetFault → Judged → Type 0
Tells r j = MatchResult r (λ _. j ≡ fine) (λ e. sheet_told e ≡ numbered j)

-- ok agrees with the timetables and with the equations of a lawful card; a card is lawful exactly when it is judged fine
pub record Answered (card : Card) (sheet : Sheet) (ok : Bool) : Type 0 where
  pub agrees : Lawful card → Agrees card sheet ok
  pub equations : Lawful card → (h : ℕ) → Frame card h → Exactly (Meets card h sheet) ok
  pub lawful : Exactly (Lawful card) ((judged_card card).0 == 0)
