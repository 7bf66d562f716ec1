-- From the judgement that an answer tells to what the answer agrees with.
use Rattle.std.proofs.Common.{◌≡◌, true, is_ok, Ok, Err, Result, refl, ap, ◌∙◌, arith}
use Rattle.refusal.specs.declared.Refusal.{Refusal}
use Rattle.refusal.specs.declared.SheetFault.{SheetFault}
use Rattle.refusal.specs.declared.SheetFault.TheVariants.{Card, Rows, WideShare, Overfull, WrongTotal}
use Rattle.refusal.specs.Table.{sheet_told}
use Rattle.card.specs.declared.types.Card as Types
use Rattle.card.specs.Verdicts.{Judged, fine}
use Rattle.card.proofs.CardsJudged.{lawful_exactly}
use Rattle.card.proofs.Faults.{fault_numbered}
use Rattle.sheet.specs.declared.types.Sheet.{Sheet}
use Rattle.sheet.specs.Tellings.{Answered, Tells}
use Rattle.sheet.specs.Verdicts.{judged}
use Rattle.sheet.proofs.Agreement.{agrees, equations}

-- no refusal has the number 0
pub sheet_bad : (e : SheetFault) → (sheet_told e).number ≡ 0 → ⊥
sheet_bad (Card e) z = fault_numbered e z
sheet_bad Rows z = omega arith
sheet_bad (WideShare interval task) z = omega arith
sheet_bad (Overfull interval) z = omega arith
sheet_bad (WrongTotal task job) z = omega arith

-- an answer that tells j is Ok exactly where j is fine
ok_fine_to : {A : Type 0} (r : Result A SheetFault) (j : Judged) → Tells r j → is_ok r ≡ true → j ≡ fine
ok_fine_to (Ok a) j c e = c
ok_fine_to (Err f) j c e = cc

ok_fine_from : {A : Type 0} (r : Result A SheetFault) (j : Judged) → Tells r j → j ≡ fine → is_ok r ≡ true
ok_fine_from (Ok a) j c e = refl
ok_fine_from (Err f) j c e = absurd (sheet_bad f (ap (λ (k : Refusal). k.number) c ∙ ap (λ (k : Judged). k.0) e))

-- an answer that tells the judgement agrees with the timetables and with the equations
pub answered : {A : Type 0} (card : Types.Card) (sheet : Sheet) (r : Result A SheetFault) → Tells r (judged card sheet) → Answered card sheet (is_ok r)
answered card sheet r c = record {
  agrees = λ l. agrees card sheet (is_ok r) (ok_fine_to r (judged card sheet) c) (ok_fine_from r (judged card sheet) c) l;
  equations = λ l. equations card sheet (is_ok r) (ok_fine_to r (judged card sheet) c) (ok_fine_from r (judged card sheet) c) l;
  lawful = lawful_exactly card;
}
