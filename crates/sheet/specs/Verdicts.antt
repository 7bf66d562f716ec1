-- The judgement of a sheet: the first check that fails, by its number and place; number 0 where none does.
use Rattle.std.specs.Prelude.{◌≡◌, ℕ, ◌+◌, ◌-◌, ◌*◌, ◌/◌, ◌<◌, ◌≤◌, cond, ◌&&◌, List, [], ◌∷◌, length, sum_by, sum, ◌==◌, nat_le, nat_lt, slice_index_or}
use Rattle.std.specs.List.{range_with_len}
use Rattle.card.specs.declared.types.Card.{Card}
use Rattle.card.specs.declared.types.Task.{Task}
use Rattle.card.specs.Cards.{tasks_of, nobody, boundaries, begins, span, run_time_of, opens, closes, opens_of, closes_of}
use Rattle.card.specs.Verdicts.{Judged, fine, or_else, each, frame_of, judged_card}
use Rattle.sheet.specs.declared.types.Sheet.{Sheet}
use Rattle.sheet.specs.Sheets.{row, share}

-- the shares of interval k, from 1, of a length; tasks count on from i
abbrev pub judged_shares : ℕ → ℕ → ℕ → List ℕ → Judged
judged_shares len k i [] = fine
judged_shares len k i (x ∷ xs) = cond (nat_lt len x) (22, k, i) (judged_shares len k (i + 1) xs)

-- the row of interval k, from 1, of a length: each share, then their sum
abbrev pub row_by : ℕ → ℕ → ℕ → List ℕ → Judged
row_by cores k len xs = or_else (judged_shares len k 1 xs) (cond (nat_lt (cores * len) (sum xs)) (23, k, 0) fine)

-- by where the intervals begin; intervals, tasks and jobs count from 0
module _ (b : ℕ → ℕ) (sheet : Sheet) where
  abbrev pub interval_by : ℕ → ℕ → Judged
  interval_by cores k = row_by cores (k + 1) (b (k + 1) - b k) (row sheet k)

  abbrev pub rows_by : ℕ → Judged
  rows_by cores = each (interval_by cores) (range_with_len 0 sheet.rows)

  -- what interval k has for task i, if it begins from a up to b
  abbrev pub part_by : ℕ → ℕ → ℕ → ℕ → ℕ
  part_by i from to k = cond (nat_le from (b k) && nat_lt (b k) to) (share sheet k i) 0

  abbrev pub total_by : ℕ → ℕ → ℕ → ℕ
  total_by i from to = sum_by (part_by i from to) (range_with_len 0 sheet.rows)

  -- job j of a task, the one with i others before it
  abbrev pub job_by : ℕ → Task → ℕ → Judged
  job_by i task j = cond (total_by i (opens_of task j) (closes_of task j) == task.run_time) fine (24, i + 1, j + 1)

  -- the jobs of a task in a frame
  abbrev pub jobs_by : ℕ → ℕ → Task → Judged
  jobs_by h i task = each (job_by i task) (range_with_len 0 (h / task.period))

  abbrev pub task_by : ℕ → Card → ℕ → Judged
  task_by h card i = jobs_by h i (slice_index_or (tasks_of card) i nobody)

  abbrev pub tasks_by : ℕ → Card → Judged
  tasks_by h card = each (task_by h card) (range_with_len 0 card.count)

-- the same of a card with the frame length h
abbrev pub judged_row : Card → ℕ → Sheet → ℕ → Judged
judged_row card h sheet k = interval_by (begins card h) sheet card.cores k

abbrev pub in_window : Card → ℕ → Sheet → ℕ → ℕ → ℕ → ℕ
in_window card h sheet i from to = total_by (begins card h) sheet i from to

abbrev pub judged_job : Card → ℕ → Sheet → ℕ → ℕ → Judged
judged_job card h sheet i j = job_by (begins card h) sheet i (slice_index_or (tasks_of card) i nobody) j

abbrev pub judged_jobs : Card → ℕ → Sheet → ℕ → Judged
judged_jobs card h sheet i = task_by (begins card h) sheet h card i

-- the counts, each interval, then each task's jobs
abbrev pub judged_sheet : Card → ℕ → Sheet → Judged
judged_sheet card h sheet = cond (sheet.rows == length (boundaries card h) && sheet.count == card.count) (or_else (rows_by (begins card h) sheet card.cores) (tasks_by (begins card h) sheet h card)) (21, 0, 0)

-- the card's checks before the sheet's
abbrev pub judged : Card → Sheet → Judged
judged card sheet = or_else (judged_card card) (judged_sheet card (frame_of (tasks_of card)) sheet)

-- The equations that a sheet meets, with the card's frame length h.
pub record Meets (card : Card) (h : ℕ) (sheet : Sheet) : Type 0 where
  pub rows : sheet.rows ≡ length (boundaries card h)
  pub count : sheet.count ≡ card.count
  pub narrow : (k i : ℕ) → k < sheet.rows → i < sheet.count → share sheet k i ≤ span card h k
  pub room : (k : ℕ) → k < sheet.rows → sum (row sheet k) ≤ card.cores * span card h k
  pub whole : (i j : ℕ) → i < card.count → closes card i j ≤ h → in_window card h sheet i (opens card i j) (closes card i j) ≡ run_time_of card i
