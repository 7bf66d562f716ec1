-- The intervals of a card begin where its boundaries are, and the judgement by them is that of the sheet.
use Rattle.std.proofs.Common.{◌≡◌, ℕ, ◌+◌, ◌<◌, ◌≤◌, true, false, cond, ◌&&◌, eqb, List, [], ◌∷◌, ◌++◌, length, get_or, Result, sym, ap, ◌∙◌, subst, arith}
use Rattle.std.proofs.lemmas.List.{length-take-le}
use Rattle.std.proofs.lemmas.Bool.{and_parts, cond-true, cond-false, eqb-true, eq-eqb, ne_eqb}
use Rattle.refusal.specs.declared.Refusal.{Refusal}
use Rattle.refusal.specs.declared.SheetFault.{SheetFault}
use Rattle.refusal.specs.declared.SheetFault.TheVariants.{Rows}
use Rattle.refusal.specs.Table.{sheet_told, numbered}
use Rattle.card.specs.declared.types.Card.{Card}
use Rattle.card.specs.declared.types.Intervals.{Intervals}
use Rattle.card.specs.Cards.{boundaries, begins, period_of}
use Rattle.card.specs.Times.{Times, start_of}
use Rattle.card.specs.Verdicts.{Judged, fine, or_else}
use Rattle.card.proofs.Bounds.{frame_marked, period_some}
use Rattle.sheet.specs.declared.types.Sheet.{Sheet}
use Rattle.sheet.specs.Tellings.{Tells}
use Rattle.sheet.specs.Verdicts.{rows_by, tasks_by, judged_sheet}
use Rattle.sheet.proofs.Answered.{sheet_bad}
use Rattle.sheet.proofs.Spans.{next}

-- the judgement of a sheet, by where the intervals begin, their number and the frame
abbrev sheet_by : (ℕ → ℕ) → ℕ → ℕ → Card → Sheet → Judged
sheet_by b n h card sheet = cond (eqb sheet.rows n && eqb sheet.count card.count) (or_else (rows_by b sheet card.cores) (tasks_by b sheet h card)) (21, 0, 0)

module _ (card : Card) (v : Intervals) (t : Times card v) where
  starts : start_of v ≡ begins card v.frame
  starts = ap {B = ℕ → ℕ} (λ (bs : List ℕ). λ k. get_or (bs ++ v.frame ∷ []) k v.frame) t.starts

  intervals : v.count ≡ length (boundaries card v.frame)
  intervals = sym (length-take-le v.count v.starts (omega (arith, v.few, v.table))) ∙ ap length t.starts

  by_starts : (sheet : Sheet) → judged_sheet card v.frame sheet ≡ sheet_by (start_of v) v.count v.frame card sheet
  by_starts sheet = ap (λ (b : ℕ → ℕ). sheet_by b (length (boundaries card v.frame)) v.frame card sheet) (sym starts) ∙ ap (λ (n : ℕ). sheet_by (start_of v) n v.frame card sheet) (sym intervals)

  -- a sheet with other counts than the card
  pub misfit_told : (sheet : Sheet) → false ≡ (eqb sheet.rows v.count && eqb sheet.count card.count) → sheet_told Rows ≡ numbered (judged_sheet card v.frame sheet)
  misfit_told sheet other = ap numbered (sym (by_starts sheet ∙ cond-false _ _ _ (sym other)))

  pub periods : (i : ℕ) → i < card.count → 1 ≤ period_of card i
  periods = period_some card v.frame t.frame

  -- a sheet with the counts of the card
  module _ (sheet : Sheet) (same : true ≡ (eqb sheet.rows v.count && eqb sheet.count card.count)) where
    pub rising : (k : ℕ) → k < sheet.rows → start_of v k ≤ start_of v (k + 1)
    rising k l =
        let m = frame_marked card v.frame t.frame in
        let rows = eqb-true sheet.rows v.count (and_parts _ _ (sym same)).0 in
        subst (λ (b : ℕ → ℕ). b k ≤ b (k + 1)) (sym starts) (omega (arith, m.rise k (omega (arith, intervals)), next card v.frame k))

    pub tasks : sheet.count ≡ card.count
    tasks = eqb-true sheet.count card.count (and_parts _ _ (sym same)).1

    whole : judged_sheet card v.frame sheet ≡ or_else (rows_by (start_of v) sheet card.cores) (tasks_by (start_of v) sheet v.frame card)
    whole = by_starts sheet ∙ cond-true _ _ _ (sym same)

    pub rows_told : (e : SheetFault) → sheet_told e ≡ numbered (rows_by (start_of v) sheet card.cores) → sheet_told e ≡ numbered (judged_sheet card v.frame sheet)
    rows_told e told = told ∙ ap numbered (sym (whole ∙ cond-false _ _ _ (ne_eqb _ 0 (λ z. sheet_bad e (ap (λ (r : Refusal). r.number) told ∙ z)))))

    pub tasks_tell : {A : Type 0} (r : Result A SheetFault) → rows_by (start_of v) sheet card.cores ≡ fine → Tells r (tasks_by (start_of v) sheet v.frame card) → Tells r (judged_sheet card v.frame sheet)
    tasks_tell r e tells = subst (λ (j : Judged). Tells r j) (sym (whole ∙ cond-true _ _ _ (eq-eqb _ 0 (ap (λ (j : Judged). j.0) e)))) tells

pub ruleset begun = (misfit_told, periods, rising, tasks)
