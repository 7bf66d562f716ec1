-- Tasks, frame, boundaries and windows of a card. Tasks, jobs and intervals count from 0 here.
use Rattle.std.specs.Prelude.{◌≡◌, ℕ, ◌+◌, ◌-◌, ◌*◌, ◌%◌, ◌<◌, ◌≤◌, Bool, false, ◌||◌, List, [], ◌∷◌, ◌++◌, get_or, take, filter, ◌==◌, slice_index_or}
use Rattle.std.specs.List.{range_with_len}
use Rattle.card.specs.declared.types.Card.{Card}
use Rattle.card.specs.declared.types.Task.{Task}
pub use Rattle.card.specs.Tasks.{nobody}

abbrev pub tasks_of : Card → List Task
tasks_of card = take card.count card.tasks

abbrev pub period_of : Card → ℕ → ℕ
period_of card i = (get_or (tasks_of card) i nobody).period

abbrev pub run_time_of : Card → ℕ → ℕ
run_time_of card i = (get_or (tasks_of card) i nobody).run_time

-- the window of job j of a task: from its release up to, but not including, the next
abbrev pub opens_of : Task → ℕ → ℕ
opens_of t j = j * t.period

abbrev pub closes_of : Task → ℕ → ℕ
closes_of t j = (j + 1) * t.period

-- the same of task i
abbrev pub opens : Card → ℕ → ℕ → ℕ
opens card i j = opens_of (slice_index_or (tasks_of card) i nobody) j

abbrev pub closes : Card → ℕ → ℕ → ℕ
closes card i j = closes_of (slice_index_or (tasks_of card) i nobody) j

abbrev pub divides : ℕ → ℕ → Bool
divides a b = b % a == 0

-- the frame length: the least number above 0 that every period divides
pub record Frame (card : Card) (h : ℕ) : Type 0 where
  pub some : 1 ≤ h
  pub common : (i : ℕ) → i < card.count → h % period_of card i ≡ 0
  pub least : (g : ℕ) → 1 ≤ g → ((i : ℕ) → i < card.count → g % period_of card i ≡ 0) → h ≤ g

abbrev pub released : List Task → ℕ → Bool
released [] tick = false
released (t ∷ ts) tick = divides t.period tick || released ts tick

-- a tick of the frame at which some task is released
abbrev pub boundary : Card → ℕ → Bool
boundary card tick = released (tasks_of card) tick

-- the ticks below h at which some task is released, rising
abbrev pub releases : List Task → ℕ → List ℕ
releases ts h = filter (released ts) (range_with_len 0 h)

-- the boundaries of a card with the frame length h
abbrev pub boundaries : Card → ℕ → List ℕ
boundaries card h = releases (tasks_of card) h

-- where interval k begins, and, for the number of the intervals, where the last one ends
abbrev pub begins : Card → ℕ → ℕ → ℕ
begins card h k = slice_index_or (boundaries card h ++ h ∷ []) k h

-- the length of interval k
abbrev pub span : Card → ℕ → ℕ → ℕ
span card h k = begins card h (k + 1) - begins card h k
