-- A sheet that meets the equations has a timetable.
use Rattle.std.proofs.Common.{◌≡◌, ℕ, suc, ◌+◌, ◌*◌, ◌<◌, ◌≤◌, eqb, length, count_by, sym, ap, ◌∙◌, subst, arith}
use Rattle.std.specs.List.{AllByRecursion}
use Rattle.card.specs.declared.types.Card.{Card}
use Rattle.sheet.specs.declared.types.Sheet.{Sheet}
use Rattle.chart.specs.Charts.{Row, Chart, part, got, Once}
use Rattle.card.specs.Cards.{Frame, tasks_of, released, boundaries, begins, span, run_time_of, opens, closes}
use Rattle.sheet.specs.Sheets.{share}
use Rattle.sheet.specs.Timetables.{Timetable, Shares, Placed}
use Rattle.sheet.specs.Verdicts.{Meets}
use Rattle.card.proofs.Bounds.{Marked, frame_marked}
use Rattle.chart.proofs.Blocks.{block, charts, length_block, block_cores, block_named, block_once, got_block, all_charts, length_charts, part_charts}
use Rattle.chart.specs.Sums.{upto}
use Rattle.sheet.proofs.Spans.{sum_row, next, window_got}

module _ (card : Card) (h : ℕ) (sheet : Sheet) where
  abbrev pub block_at : ℕ → Chart
  block_at k = block (share sheet k) sheet.count card.cores (span card h k)

  abbrev pub wrapped : Chart
  wrapped = charts block_at sheet.rows

module _ (card : Card) (h : ℕ) (sheet : Sheet) (f : Frame card h) (m : Meets card h sheet) where
  marks : Marked (released (tasks_of card)) h (length (boundaries card h)) (begins card h)
  marks = frame_marked card h f

  each : (k : ℕ) → k < sheet.rows → begins card h k + length (block_at card h sheet k) ≡ begins card h (suc k)
  each k l = omega (arith, next card h k, length_block (share sheet k) sheet.count card.cores (span card h k), marks.rise k (omega (arith, l, m.rows)))

  ticks : length (wrapped card h sheet) ≡ h
  ticks = length_charts (block_at card h sheet) (begins card h) marks.start sheet.rows each ∙ ap (begins card h) m.rows ∙ marks.end

  cores : AllByRecursion (λ row. length row ≡ card.cores) (wrapped card h sheet)
  cores = all_charts _ (block_at card h sheet) sheet.rows (λ k l. block_cores (share sheet k) sheet.count card.cores (span card h k))

  named : AllByRecursion (λ row. AllByRecursion (λ task. task ≤ card.count) row) (wrapped card h sheet)
  named = subst (λ n. AllByRecursion (λ row. AllByRecursion (λ task. task ≤ n) row) (wrapped card h sheet)) m.count (all_charts _ (block_at card h sheet) sheet.rows (λ k l. block_named (share sheet k) sheet.count card.cores (span card h k)))

  once : AllByRecursion Once (wrapped card h sheet)
  once = all_charts Once (block_at card h sheet) sheet.rows (λ k l. block_once (share sheet k) sheet.count card.cores (span card h k) (λ i li. m.narrow k i l li))

  -- a task gets its share in each interval
  same : (k i : ℕ) → k < sheet.rows → i < sheet.count → share sheet k i ≡ got (i + 1) (part (begins card h k) (begins card h (k + 1)) (wrapped card h sheet))
  same k i lk li =
      let g : Row → ℕ = count_by (eqb (i + 1)) in
      let e : got (i + 1) (part (begins card h k) (begins card h (suc k)) (wrapped card h sheet)) ≡ got (i + 1) (block_at card h sheet k) = part_charts (block_at card h sheet) (begins card h) marks.start g sheet.rows k each lk in
      let room : upto (share sheet k) sheet.count ≤ card.cores * span card h k = omega (arith, m.room k lk, sum_row sheet k) in
      sym (ap (λ (x : ℕ). got (i + 1) (part (begins card h k) x (wrapped card h sheet))) (next card h k) ∙ e ∙ got_block (share sheet k) sheet.count card.cores (span card h k) i li room)

  pub made_shares : Shares card h (wrapped card h sheet) sheet
  made_shares = record { rows = m.rows; count = m.count; same = same }

  windows : (i j : ℕ) → i < card.count → closes card i j ≤ h → got (i + 1) (part (opens card i j) (closes card i j) (wrapped card h sheet)) ≡ run_time_of card i
  windows i j l w = sym (window_got card h (wrapped card h sheet) sheet f made_shares i j l w) ∙ m.whole i j l w

  pub made : Timetable card h (wrapped card h sheet)
  made = record { ticks = ticks; cores = cores; named = named; once = once; windows = windows }

  pub meets_placed : Placed card sheet
  meets_placed = (h, wrapped card h sheet, f, made, made_shares)
