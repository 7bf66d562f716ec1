-- The judgement agrees with the equations, and both with the timetables.
use Rattle.std.proofs.Common.{◌≡◌, ℕ, Bool, true, ◌↔◌, ap, subst}
use Rattle.card.specs.declared.types.Card.{Card}
use Rattle.sheet.specs.declared.types.Sheet.{Sheet}
use Rattle.card.specs.Cards.{Frame, tasks_of}
use Rattle.card.specs.Lawful.{Lawful, Exactly}
use Rattle.sheet.specs.Timetables.{Agrees}
use Rattle.card.specs.Verdicts.{Judged, fine, frame_of, judged_card}
use Rattle.sheet.specs.Verdicts.{judged_sheet, judged, Meets}
use Rattle.card.proofs.Frames.{frame_one}
use Rattle.card.proofs.Judges.{Ok, ok_or_else, or_else_ok, clean_or_else}
use Rattle.card.proofs.CardsJudged.{ok_lawful, lawful_ok, lawful_frame}
use Rattle.sheet.proofs.SheetsJudged.{ok_meets, meets_ok, clean_sheet}
use Rattle.sheet.proofs.Needed.{placed_meets}
use Rattle.sheet.proofs.Made.{meets_placed}

-- the number alone decides
pub ok_fine : (card : Card) (sheet : Sheet) → Ok (judged card sheet) → judged card sheet ≡ fine
ok_fine card sheet = clean_or_else (judged_card card) (judged_sheet card (frame_of (tasks_of card)) sheet) (clean_sheet card (frame_of (tasks_of card)) sheet)

pub fine_ok : (card : Card) (sheet : Sheet) → judged card sheet ≡ fine → Ok (judged card sheet)
fine_ok card sheet e = ap (λ (j : Judged). j.0) e

pub fine_lawful : (card : Card) (sheet : Sheet) → judged card sheet ≡ fine → Lawful card
fine_lawful card sheet e = ok_lawful card (ok_or_else (judged_card card) _ (fine_ok card sheet e)).0

pub fine_meets : (card : Card) (sheet : Sheet) → Lawful card → judged card sheet ≡ fine → Meets card (frame_of (tasks_of card)) sheet
fine_meets card sheet l e = ok_meets card (frame_of (tasks_of card)) sheet (λ i li. (l.periods i li).0) (ok_or_else (judged_card card) _ (fine_ok card sheet e)).1

pub meets_fine : (card : Card) (sheet : Sheet) → Lawful card → Meets card (frame_of (tasks_of card)) sheet → judged card sheet ≡ fine
meets_fine card sheet l m = ok_fine card sheet (or_else_ok (judged_card card) _ (lawful_ok card l) (meets_ok card (frame_of (tasks_of card)) sheet (λ i li. (l.periods i li).0) m))

-- fine exactly when the card is lawful and the sheet meets its equations
pub fine_exactly : (card : Card) (sheet : Sheet) → (judged card sheet ≡ fine) ↔ (Lawful card × Meets card (frame_of (tasks_of card)) sheet)
fine_exactly card sheet = ((λ e. let l = fine_lawful card sheet e in (l, fine_meets card sheet l e)), (λ p. meets_fine card sheet p.0 p.1))

-- the equations at the frame, however it is given
pub frame_meets : (card : Card) (sheet : Sheet) (g h : ℕ) → Frame card g → Frame card h → Meets card g sheet → Meets card h sheet
frame_meets card sheet g h f f' m = subst (λ x. Meets card x sheet) (frame_one card g h f f') m

-- an answer that is true exactly when the judgement is fine
module _ (card : Card) (sheet : Sheet) (ok : Bool) (to : ok ≡ true → judged card sheet ≡ fine) (from : judged card sheet ≡ fine → ok ≡ true) (l : Lawful card) where
  pub equations : (h : ℕ) → Frame card h → Exactly (Meets card h sheet) ok
  equations h f = record {
    to = λ e. frame_meets card sheet (frame_of (tasks_of card)) h (lawful_frame card l) f (fine_meets card sheet l (to e));
    from = λ m. from (meets_fine card sheet l (frame_meets card sheet h (frame_of (tasks_of card)) f (lawful_frame card l) m));
  }

  pub agrees : Agrees card sheet ok
  agrees = record {
    to = λ e. meets_placed card (frame_of (tasks_of card)) sheet (lawful_frame card l) (fine_meets card sheet l (to e));
    from = λ p. let q = placed_meets card sheet p in (equations q.0 q.1).from q.2;
  }
