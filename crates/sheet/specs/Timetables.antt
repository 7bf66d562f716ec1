-- What a timetable is, and when a sheet has one.
use Rattle.std.specs.Prelude.{◌≡◌, ℕ, ◌+◌, ◌<◌, ◌≤◌, Bool, length}
use Rattle.std.specs.List.{AllByRecursion}
use Rattle.chart.specs.Charts.{Chart, part, got, Once}
use Rattle.card.specs.declared.types.Card.{Card}
use Rattle.card.specs.Cards.{Frame, boundaries, begins, run_time_of, opens, closes}
use Rattle.card.specs.Lawful.{Exactly}
use Rattle.sheet.specs.declared.types.Sheet.{Sheet}
use Rattle.sheet.specs.Sheets.{share}

-- For each tick of the frame and each core one task or none (0); no task twice in a tick; each job of each task
-- in exactly its run time of the ticks of its window.
pub record Timetable (card : Card) (h : ℕ) (chart : Chart) : Type 0 where
  pub ticks : length chart ≡ h
  pub cores : AllByRecursion (λ row. length row ≡ card.cores) chart
  pub named : AllByRecursion (λ row. AllByRecursion (λ task. task ≤ card.count) row) chart
  pub once : AllByRecursion Once chart
  pub windows : (i j : ℕ) → i < card.count → closes card i j ≤ h → got (i + 1) (part (opens card i j) (closes card i j) chart) ≡ run_time_of card i

-- the sheet has the card's counts, and its shares are what each task gets in each interval of the chart
pub record Shares (card : Card) (h : ℕ) (chart : Chart) (sheet : Sheet) : Type 0 where
  pub rows : sheet.rows ≡ length (boundaries card h)
  pub count : sheet.count ≡ card.count
  pub same : (k i : ℕ) → k < sheet.rows → i < sheet.count → share sheet k i ≡ got (i + 1) (part (begins card h k) (begins card h (k + 1)) chart)

-- some timetable in whole ticks meets every deadline and has the sheet's shares
abbrev pub Placed : Card → Sheet → Type 0
Placed card sheet = (h : ℕ) × (chart : Chart) × Frame card h × Timetable card h chart × Shares card h chart sheet

abbrev pub Agrees : Card → Sheet → Bool → Type 0
Agrees card sheet ok = Exactly (Placed card sheet) ok
