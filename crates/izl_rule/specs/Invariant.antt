-- What a state of IZL keeps, told of both queues as one list.
use Rattle.std.specs.Prelude.{◌≡◌, ℕ, ◌+◌, ◌*◌, ◌<◌, ◌≤◌, List, ◌++◌, map, length, sum_by, count_by, nat_eq, slice_index_or}
use Rattle.std.specs.List.{AllByRecursion}
use Rattle.std.specs.List.Sorted.{IsNonDecreasingBy}
use Rattle.izl_rule.specs.declared.Running.{Running}
use Rattle.izl_rule.specs.declared.Waiting.{Waiting}
use Rattle.izl_rule.specs.Rule.{State, nothing, passage}

-- The jobs are the tasks of the core queue and then those that wait; the line has the cores of the core queue.
pub record Merged : Type 0 where
  pub width : ℕ
  pub left : ℕ
  pub jobs : List Waiting
  pub line : List ℕ
  pub taken : List Running

abbrev pub job : Running → Waiting
job r = record { amount = r.amount; task = r.task }

abbrev pub merged : State → Merged
merged s = record { width = s.width; left = s.left; jobs = map job s.running ++ s.waiting; line = map (λ (r : Running). r.core) s.running; taken = s.taken }

abbrev pub counted : ℕ → List Waiting → ℕ
counted task = count_by (λ w. nat_eq task w.task)

abbrev pub seated : ℕ → List Running → ℕ
seated task = count_by (λ r. nat_eq task r.task)

pub record Held (s : Merged) : Type 0 where
  -- a core is in the line or taken over once, and within the width
  pub narrow : s.width ≤ 16
  pub apart : (c : ℕ) → count_by (nat_eq c) s.line + count_by (λ r. nat_eq c r.core) s.taken ≤ 1
  pub inside : AllByRecursion (λ c. c < s.width) s.line
  pub inside_taken : AllByRecursion (λ r. r.core < s.width) s.taken
  -- no task is there twice, none above 32, and no task 0
  pub tasks : (task : ℕ) → counted task s.jobs + seated task s.taken ≤ 1
  pub known : (task : ℕ) → 32 < task → counted task s.jobs + seated task s.taken ≡ 0
  pub numbered : counted 0 s.jobs + seated 0 s.taken ≡ 0
  -- the amounts rise, and none is above what is left
  pub rises : IsNonDecreasingBy (λ j. j.amount) s.jobs
  pub bounded : AllByRecursion (λ j. j.amount ≤ s.left) s.jobs
  -- a task that took a core over has as much left as there are ticks
  pub urgent : AllByRecursion (λ r. r.amount ≡ s.left) s.taken
  -- each core of the line has a job
  pub staffed : length s.line ≤ length s.jobs
  -- what waits has ticks left, finds room on the line, and leaves no core idle
  pub unended : length s.line < length s.jobs → 0 < (slice_index_or s.jobs (length s.line) nothing).amount
  pub room : length s.line < length s.jobs → sum_by (λ j. j.amount) s.jobs ≤ length s.line * s.left
  pub full : length s.line < length s.jobs → length s.line + length s.taken ≡ s.width

-- between slices the next passage takes time
pub record Sound (s : State) : Type 0 where
  pub held : Held (merged s)
  pub prompt : 0 < s.left → 0 < (passage s).0
