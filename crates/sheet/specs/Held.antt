-- What a placement holds: nothing, or one card and one sheet.
use Rattle.std.specs.Prelude.{◌≡◌, ℕ, Bool, true, false, cond, List, [], Some, None, Option, nat_lt, slice_index_or}
use Rattle.std.specs.Option.{option_map}
use Rattle.card.specs.declared.types.Card.{Card}
use Rattle.card.specs.declared.types.Task.{Task}
use Rattle.card.specs.Cards.{tasks_of, nobody, begins}
use Rattle.card.specs.Verdicts.{frame_of}
use Rattle.sheet.specs.declared.types.Sheet.{Sheet}
use Rattle.sheet.specs.declared.placement.Plan.{Plan}
use Rattle.sheet.specs.declared.placement.Placement.{Placement}
use Rattle.sheet.specs.Sheets.{row, shares_at}

abbrev pub planned : Plan → Card × Sheet
planned plan = (plan.card, plan.sheet)

abbrev pub held : Placement → Option (Card × Sheet)
held p = option_map planned p.plan

abbrev pub Holds : Placement → Card → Sheet → Type 0
Holds p card sheet = held p ≡ Some (card, sheet)

abbrev pub Empty : Placement → Type 0
Empty p = held p ≡ None

-- what is asked of the card and the sheet that are held, or `none` where the placement is empty
abbrev pub asked : {A : Type 0} → A → (Card → Sheet → A) → Option (Card × Sheet) → A
asked none f None = none
asked none f (Some q) = f q.0 q.1

abbrev pub empty_in : Option (Card × Sheet) → Bool
empty_in o = asked true (λ _ _. false) o

abbrev pub card_in : Option (Card × Sheet) → Option Card
card_in o = option_map (λ q. q.0) o

abbrev pub sheet_in : Option (Card × Sheet) → Option Sheet
sheet_in o = option_map (λ q. q.1) o

abbrev pub cores_in : Option (Card × Sheet) → ℕ
cores_in o = asked 0 (λ card _. card.cores) o

abbrev pub count_in : Option (Card × Sheet) → ℕ
count_in o = asked 0 (λ card _. card.count) o

-- its tasks
abbrev pub tasks_in : Option (Card × Sheet) → List Task
tasks_in o = asked [] (λ card _. tasks_of card) o

-- task i, from 0
abbrev pub task_in : Option (Card × Sheet) → ℕ → Task
task_in o i = asked nobody (λ card _. slice_index_or (tasks_of card) i nobody) o

abbrev pub frame_in : Option (Card × Sheet) → ℕ
frame_in o = asked 0 (λ card _. frame_of (tasks_of card)) o

abbrev pub rows_in : Option (Card × Sheet) → ℕ
rows_in o = asked 0 (λ _ sheet. sheet.rows) o

-- where interval k, from 0, begins; for the number of the intervals or more, the frame's end
abbrev pub start_in : Option (Card × Sheet) → ℕ → ℕ
start_in o k = asked 0 (λ card _. begins card (frame_of (tasks_of card)) k) o

-- the shares of interval k, from 0
abbrev pub row_in : Option (Card × Sheet) → ℕ → List ℕ
row_in o k = asked [] (λ _ sheet. row sheet k) o

-- the same, and none past the last interval
abbrev pub row_at_in : Option (Card × Sheet) → ℕ → List ℕ
row_at_in o k = cond (nat_lt k (rows_in o)) (row_in o k) []

abbrev pub shares_at_in : Option (Card × Sheet) → ℕ → ℕ
shares_at_in o k = asked 0 (λ _ sheet. shares_at sheet k) o
