-- A sheet with a timetable meets the equations.
use Rattle.std.proofs.Common.{◌≡◌, ℕ, ◌+◌, ◌-◌, ◌*◌, ◌<◌, ◌≤◌, eqb, length, sum, count_by, ◌∙◌, arith}
use native.Mathlib.Nat as law
use Rattle.std.specs.List.{AllByRecursion}
use Rattle.std.proofs.ByRecursion.{sum_by_le, All-weaker}
use Rattle.card.specs.declared.types.Card.{Card}
use Rattle.sheet.specs.declared.types.Sheet.{Sheet}
use Rattle.chart.specs.Charts.{Row, Chart, part, got, Once}
use Rattle.card.specs.Cards.{Frame, begins, span, run_time_of, opens, closes}
use Rattle.sheet.specs.Sheets.{row, share}
use Rattle.sheet.specs.Timetables.{Timetable, Shares, Placed}
use Rattle.sheet.specs.Verdicts.{Meets, in_window}
use Rattle.chart.proofs.Parts.{length_part, all_part}
use Rattle.chart.specs.Sums.{upto}
use Rattle.chart.proofs.Ranges.{upto_same, sum_by_swap}
use Rattle.sheet.proofs.Spans.{sum_row, window_got}
use Rattle.chart.proofs.Tallies.{hit, one_task, all_of}

-- the tasks of a row are at most its seats
pub row_full : (seats : Row) (n : ℕ) → upto (λ i. count_by (eqb (i + 1)) seats) n ≤ length seats
row_full seats n = omega (arith, sum_by_swap (λ i x. hit (i + 1) x) seats n, sum_by_le (λ x. upto (λ i. hit (i + 1) x) n) 1 seats (all_of _ (λ x. one_task x n) seats))

pub chart_full : (cores : ℕ) (chart : Chart) (n : ℕ) → AllByRecursion (λ seats. length seats ≡ cores) chart → upto (λ i. got (i + 1) chart) n ≤ length chart * cores
chart_full cores chart n all = omega (arith, sum_by_swap (λ i seats. count_by (eqb (i + 1)) seats) chart n, sum_by_le (λ seats. upto (λ i. count_by (eqb (i + 1)) seats) n) cores chart (All-weaker _ _ (λ seats e. omega (arith, e, row_full seats n)) chart all))

pub part_narrow : (chart : Chart) (i a b : ℕ) → AllByRecursion Once chart → got (i + 1) (part a b chart) ≤ b - a
part_narrow chart i a b once = omega (arith, length_part chart a b, sum_by_le (λ seats. count_by (eqb (i + 1)) seats) 1 (part a b chart) (All-weaker Once _ (λ seats o. o (i + 1) (omega arith)) (part a b chart) (all_part Once chart a b once)))

module _ (card : Card) (h : ℕ) (chart : Chart) (sheet : Sheet) (f : Frame card h) (t : Timetable card h chart) (s : Shares card h chart sheet) where
  narrow : (k i : ℕ) → k < sheet.rows → i < sheet.count → share sheet k i ≤ span card h k
  narrow k i lk li = omega (arith, s.same k i lk li, part_narrow chart i (begins card h k) (begins card h (k + 1)) t.once)

  room : (k : ℕ) → k < sheet.rows → sum (row sheet k) ≤ card.cores * (span card h k)
  room k lk =
      let a : ℕ = begins card h k in let b : ℕ = begins card h (k + 1) in
      omega (arith, sum_row sheet k, upto_same (share sheet k) (λ i. got (i + 1) (part a b chart)) sheet.count (λ i li. s.same k i lk li), chart_full card.cores (part a b chart) sheet.count (all_part _ chart a b t.cores), law.mul-le-mul_right card.cores (length_part chart a b), law.mul_comm (b - a) card.cores)

  whole : (i j : ℕ) → i < card.count → closes card i j ≤ h → in_window card h sheet i (opens card i j) (closes card i j) ≡ run_time_of card i
  whole i j l w = window_got card h chart sheet f s i j l w ∙ t.windows i j l w

  pub needed : Meets card h sheet
  needed = record { rows = s.rows; count = s.count; narrow = narrow; room = room; whole = whole }

-- a sheet that is placed meets the equations of a frame
pub placed_meets : (card : Card) (sheet : Sheet) → Placed card sheet → (h : ℕ) × Frame card h × Meets card h sheet
placed_meets card sheet p = (p.0, p.2, needed card p.0 p.1 sheet p.2 p.3 p.4)
