-- Where the card is judged fine, its sheet's judgement is the whole.
use Rattle.std.proofs.Common.{◌≡◌, ℕ, sym, ap, ◌∙◌}
use Rattle.std.proofs.lemmas.Bool.{cond-true, eq-eqb}
use Rattle.refusal.specs.declared.SheetFault.{SheetFault}
use Rattle.refusal.specs.Table.{sheet_told, numbered}
use Rattle.card.specs.declared.types.Card.{Card}
use Rattle.card.specs.Cards.{tasks_of}
use Rattle.card.specs.Verdicts.{Judged, fine, frame_of, judged_card}
use Rattle.sheet.specs.declared.types.Sheet.{Sheet}
use Rattle.sheet.specs.Verdicts.{judged_sheet, judged}

module _ (card : Card) (sheet : Sheet) (h : ℕ) (lawful : judged_card card ≡ fine) (frame : h ≡ frame_of (tasks_of card)) where
  whole : judged_sheet card h sheet ≡ judged card sheet
  whole = ap (λ (x : ℕ). judged_sheet card x sheet) frame ∙ sym (cond-true _ _ _ (eq-eqb (judged_card card).0 0 (ap (λ (j : Judged). j.0) lawful)))

  pub sheet_fine : judged_sheet card h sheet ≡ fine → judged card sheet ≡ fine
  sheet_fine e = sym whole ∙ e

  pub sheet_told_lem : (e : SheetFault) → sheet_told e ≡ numbered (judged_sheet card h sheet) → sheet_told e ≡ numbered (judged card sheet)
  sheet_told_lem e told = told ∙ ap numbered whole
