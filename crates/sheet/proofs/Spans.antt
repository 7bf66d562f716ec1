-- Rows and windows of a sheet as sums over tasks and intervals, and what a window of a timetable has of them.
use Rattle.std.proofs.Common.{◌≡◌, ℕ, suc, ◌+◌, ◌*◌, ◌<◌, ◌≤◌, eqb, length, take, drop, sum, count_by, ap, ◌∙◌, add-one, arith}
use native.Mathlib.Nat as law
use Rattle.std.proofs.lemmas.List.{get_or-drop}
use Rattle.card.specs.declared.types.Card.{Card}
use Rattle.sheet.specs.declared.types.Sheet.{Sheet}
use Rattle.chart.specs.Charts.{Row, Chart, part, got}
use Rattle.card.specs.Cards.{Frame, boundaries, begins, period_of, opens, closes}
use Rattle.sheet.specs.Sheets.{row, share}
use Rattle.sheet.specs.Timetables.{Shares}
use Rattle.sheet.specs.Verdicts.{in_window}
use Rattle.card.proofs.Bounds.{frame_marked, period_some, release}
use Rattle.chart.proofs.Parts.{part_front}
use Rattle.chart.specs.Sums.{upto}
use Rattle.chart.proofs.Ranges.{inside, upto_same, sum_by_counting, sum_take}
use Rattle.card.proofs.Windows.{window}

-- the shares of a row, as a sum over the tasks
pub sum_row : (sheet : Sheet) (k : ℕ) → sum (row sheet k) ≡ upto (share sheet k) sheet.count
sum_row sheet k = sum_take (drop (k * sheet.count) sheet.shares) sheet.count ∙ upto_same _ (share sheet k) sheet.count (λ i l. get_or-drop (k * sheet.count) sheet.shares i 0)

-- what a window has is a sum over the intervals
pub window_sum : (card : Card) (h : ℕ) (sheet : Sheet) (i u v : ℕ) → in_window card h sheet i u v ≡ upto (λ k. inside u v (begins card h k) (share sheet k i)) sheet.rows
window_sum card h sheet i u v = sum_by_counting (λ k. inside u v (begins card h k) (share sheet k i)) sheet.rows

pub next : (card : Card) (h k : ℕ) → begins card h (k + 1) ≡ begins card h (suc k)
next card h k = ap (begins card h) (add-one k)

-- the shares of the intervals in a task's window add up to what the task gets in it
pub window_got : (card : Card) (h : ℕ) (chart : Chart) (sheet : Sheet) → Frame card h → Shares card h chart sheet → (i j : ℕ) → i < card.count → closes card i j ≤ h → in_window card h sheet i (opens card i j) (closes card i j) ≡ got (i + 1) (part (opens card i j) (closes card i j) chart)
window_got card h chart sheet f s i j l w =
    let some = period_some card h f i l in
    let u : ℕ = opens card i j in let v : ℕ = closes card i j in
    let order : u ≤ v = law.mul-le-mul_right (period_of card i) (law.le-add_right j 1) in
    let count : Row → ℕ = λ seats. count_by (eqb (i + 1)) seats in
    let g : ℕ → ℕ = λ x. got (i + 1) (take x chart) in
    let m = frame_marked card h f in
    let adds : (k : ℕ) → k < length (boundaries card h) → share sheet k i + g (begins card h k) ≡ g (begins card h (suc k)) = λ k lk.
    let e = s.same k i (omega (arith, s.rows, lk)) (omega (arith, s.count, l)) in
    let r = m.rise k lk in
    let q : begins card h (k + 1) ≡ begins card h (suc k) = next card h k in
    omega (arith, e, ap g q, part_front count chart (begins card h k) (begins card h (k + 1)) (omega arith)) in
    let e = window m g (λ k. share sheet k i) adds u v order w (release card i j some) (release card i (j + 1) some) in
    let n = ap (upto (λ k. inside u v (begins card h k) (share sheet k i))) s.rows in
    omega (arith, window_sum card h sheet i u v, e, n, part_front count chart u v order)
