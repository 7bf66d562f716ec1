-- A sheet that meets the equations at its card's frame is good.
use Rattle.std.proofs.Common.{◌≡◌, ℕ, suc, ◌+◌, ◌*◌, ◌<◌, ◌≤◌, length, ap, ◌∙◌, ⊎_elim, arith}
use native.Mathlib.Nat as law
use Rattle.std.proofs.lemmas.Bool.{cases_Bool}
use Rattle.card.specs.declared.types.Card.{Card}
use Rattle.sheet.specs.declared.types.Sheet.{Sheet}
use Rattle.card.specs.Cards.{Frame, boundaries, begins, period_of, run_time_of, released, tasks_of}
use Rattle.sheet.specs.Sheets.{share}
use Rattle.sheet.specs.Verdicts.{Meets, in_window}
use Rattle.card.proofs.Bounds.{Marked, mark_upto, period_some, release, frame_marked}
use Rattle.chart.proofs.Rising.{below, in_order}
use Rattle.sheet.proofs.Spans.{next, window_sum}
use Rattle.card.proofs.Windows.{window_total}
use Rattle.dispatch.proofs.Goods.{Good, total}

module _ (card : Card) (h : ℕ) (sheet : Sheet) (frame : Frame card h) (short : h ≤ 1000000) (meets : Meets card h sheet) where
  marks : Marked (released (tasks_of card)) h (length (boundaries card h)) (begins card h)
  marks = frame_marked card h frame

  -- an interval of the sheet is one of the card
  among : (k : ℕ) → k < sheet.rows → k < length (boundaries card h)
  among k l = omega (arith, meets.rows)

  rise : (k : ℕ) → k < sheet.rows → begins card h k < begins card h (suc k)
  rise k l = marks.rise k (among k l)

  to_end : begins card h sheet.rows ≡ h
  to_end = ap (begins card h) meets.rows ∙ marks.end

  marked : (i j : ℕ) → i < card.count → j * period_of card i ≤ h → (a : ℕ) × (a ≤ sheet.rows) × (begins card h a ≡ j * period_of card i)
  marked i j l le = let m = mark_upto marks (j * period_of card i) le (release card i j (period_some card h frame i l)) in (m.0, omega (arith, m.1, meets.rows), m.2)

  whole : (i j a b : ℕ) → i < card.count → a ≤ sheet.rows → b ≤ sheet.rows → begins card h a ≡ j * period_of card i → begins card h b ≡ (j + 1) * period_of card i → total sheet i b ≡ total sheet i a + run_time_of card i
  whole i j a b l al bl ea eb =
      let later = law.add-mul j 1 (period_of card i) in
      let top = below (begins card h) sheet.rows rise b sheet.rows bl (law.le_refl sheet.rows) in
      let order : a ≤ b = in_order (begins card h) sheet.rows rise a b al (omega (arith, ea, eb, later)) in
      let w = window_total (begins card h) sheet.rows rise (λ k. share sheet k i) a b order bl in
      let q = meets.whole i j l (omega (arith, eb, top, to_end)) in
      let v : in_window card h sheet i (begins card h a) (begins card h b) ≡ in_window card h sheet i (j * period_of card i) ((j + 1) * period_of card i) = ap (λ (n : ℕ). in_window card h sheet i n (begins card h b)) ea ∙ ap (λ (n : ℕ). in_window card h sheet i (j * period_of card i) n) eb in
      omega (arith, w, q, v, window_sum card h sheet i (begins card h a) (begins card h b))

  pub good_of : Good card h sheet
  good_of = record {
    frame = frame;
    short = short;
    count = meets.count;
    periods = period_some card h frame;
    from_0 = marks.start;
    to_end = to_end;
    rising = λ k l. omega (arith, rise k l, next card h k);
    releases = λ k l. marks.passes k (among k l);
    quiet = λ k t l lo hi. ⊎_elim (λ is. absurd (marks.clear k (among k l) t lo (omega (arith, hi, next card h k)) is)) (λ not. not) (cases_Bool (released (tasks_of card) t));
    marked = marked;
    whole = whole;
  }
