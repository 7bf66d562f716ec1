-- How the books stand at the start and after a slice.
use Rattle.std.specs.Prelude.{◌≡◌, ℕ, ◌+◌, ◌-◌, ◌*◌, ◌%◌, ◌^◌, ◌<◌, min, Bool, cond, ◌&&◌, List, [], get_or, ◌==◌, count_ones, slice_index_or}
use Rattle.card.specs.declared.types.Card.{Card}
use Rattle.card.specs.declared.types.Task.{Task}
use Rattle.card.specs.Cards.{tasks_of, nobody}
use Rattle.sheet.specs.declared.placement.Placement.{Placement}
use Rattle.sheet.specs.Held.{held, task_in}
use Rattle.local.specs.declared.slice.Slice.{Slice}
use Rattle.local.specs.Meaning.{seated}
use Rattle.dispatch.specs.declared.books.Account.{Account}
use Rattle.dispatch.specs.declared.books.Books.{Books}
use Rattle.dispatch.specs.Counts.{changed}

abbrev pub nothing : Account
nothing = record { given = 0; owed = 0 }

-- accounts at the start, of the first 32 tasks: nothing given, the run times owed
abbrev pub Opened : Placement → List Account → Type 0
Opened p accounts = (i : ℕ) → i < 32 → slice_index_or accounts i nothing ≡ record { given = 0; owed = (task_in (held p) i).run_time }

-- the greatest number of 64 bits stands for all above it
abbrev pub tallied : ℕ → ℕ
tallied n = min n (2 ^ 64 - 1)

-- an account from which `amount` ticks are paid, of a run time
abbrev pub paid : ℕ → ℕ → ℕ → Account
paid run owed amount = record { given = run - (owed - amount); owed = owed - amount }

-- a slice that begins at `tick` of the frame, and an interval where `first` says so, begins a window of the task
abbrev pub anew : Bool → ℕ → Task → Bool
anew first tick t = first && tick % t.period == 0

-- the account of a task, that of its place i in the books b, after the slice z
abbrev pub paid_to : Books → Bool → ℕ → Slice → ℕ → Task → Account
paid_to b first tick z i t = paid t.run_time (cond (anew first tick t) t.run_time (get_or b.accounts i nothing).owed) (seated z (i + 1) * z.length)

-- how the books stand after the slice z that begins at `tick` of the frame, and an interval where `first` says so
pub record Entered (card : Card) (b : Books) (first : Bool) (tick : ℕ) (z : Slice) (b' : Books) : Type 0 where
  pub accounts : (i : ℕ) → i < card.count → slice_index_or b'.accounts i nothing ≡ paid_to b first tick z i (slice_index_or (tasks_of card) i nobody)
  pub slices : b'.slices ≡ tallied (b.slices + 1)
  pub switches : b'.switches ≡ tallied (b.switches + changed (cond first [] b.seats) z.seats)
  pub busy : b'.busy ≡ tallied (b.busy + z.length * count_ones z.busy)
  pub seats : b'.seats ≡ z.seats
