-- The checks of a card in their order: what the first fault says of the card, and what it means that there is none.
use Rattle.std.proofs.Common.{◌≡◌, ℕ, ◌<◌, ◌≤◌, Bool, eqb, ltb, List, length, is_ok, Ok, Err, Result, sym, ap, ◌∙◌, subst, arith, MatchResult}
use Rattle.std.proofs.ByRecursion.{All-get_or}
use Rattle.std.proofs.lemmas.List.{length-take-le}
use Rattle.std.proofs.lemmas.Bool.{cond-true, cond-false, lt-ltb, le-ltb, eq-eqb}
use Rattle.refusal.specs.Table.{card_told, numbered}
use Rattle.refusal.specs.declared.CardFault.{CardFault}
use Rattle.refusal.specs.declared.CardFault.TheVariants.{Boundaries}
use Rattle.card.specs.declared.types.Card.{Card}
use Rattle.card.specs.declared.types.Intervals.{Intervals}
use Rattle.card.specs.declared.types.Task.{Task}
use Rattle.card.specs.Cards.{Frame, tasks_of, nobody, boundaries, releases}
use Rattle.card.specs.Lawful.{Lawful, Exactly}
use Rattle.card.specs.Lines.{Periods}
use Rattle.card.specs.Times.{Times, starts_of}
use Rattle.card.specs.Verdicts.{Judged, fine, frame_of, judged_tasks, judged_card}
use Rattle.card.proofs.CardsJudged.{Sound, ok_tasks, ok_lawful, lawful_frame, lawful_exactly}
use Rattle.card.proofs.Faults.{told_first, told_not_fine, fine_next}

-- tasks that pass their checks
pub sound_tasks : (ts : List Task) → judged_tasks 1 1 ts ≡ fine → Periods ts × (frame_of ts ≤ 1000000)
sound_tasks ts f =
    let s = ok_tasks ts 1 1 (omega arith) (ap (λ (j : Judged). j.0) f) in
    (λ i l. let t = All-get_or Sound ts i nobody l s.0 in (t.0, t.1), s.1)

-- what a card's answer says of its judgement
abbrev pub Answered : Card → Result Intervals CardFault → Type 0
Answered card r = MatchResult r (λ v. (judged_card card ≡ fine) × (v.frame ≡ frame_of (tasks_of card)) × Times card v) (λ e. card_told e ≡ numbered (judged_card card))

answered_ok : (card : Card) (r : Result Intervals CardFault) → Answered card r → is_ok r ≡ eqb (judged_card card).0 0
answered_ok card (Ok v) a = sym (eq-eqb (judged_card card).0 0 (ap (λ (j : Judged). j.0) a.0))
answered_ok card (Err e) a = sym (told_not_fine e (judged_card card) a)

pub answered_exactly : (card : Card) (r : Result Intervals CardFault) → Answered card r → Exactly (Lawful card) (is_ok r)
answered_exactly card r a = subst (λ (b : Bool). Exactly (Lawful card) b) (sym (answered_ok card r a)) (lawful_exactly card)

module _ (card : Card) where
  pub task_fault : (e : CardFault) → card_told e ≡ numbered (judged_tasks 1 1 (tasks_of card)) → card_told e ≡ numbered (judged_card card)
  task_fault e t = told_first e (judged_tasks 1 1 (tasks_of card)) _ t

  module _ (f : judged_tasks 1 1 (tasks_of card) ≡ fine) where
    pub crowd_fault : 128 < length (releases (tasks_of card) (frame_of (tasks_of card))) → card_told Boundaries ≡ numbered (judged_card card)
    crowd_fault more = ap numbered (sym (fine_next (judged_tasks 1 1 (tasks_of card)) _ f ∙ cond-true (ltb 128 (length (boundaries card (frame_of (tasks_of card))))) (14, 0, 0) fine (lt-ltb 128 _ more)))

    pub no_fault : (v : Intervals) → v.frame ≡ frame_of (tasks_of card) → starts_of v ≡ releases (tasks_of card) (frame_of (tasks_of card)) → (judged_card card ≡ fine) × (v.frame ≡ frame_of (tasks_of card)) × Times card v
    no_fault v same starts =
        let h : ℕ = frame_of (tasks_of card) in
        let few : length (boundaries card h) ≤ 128 = omega (arith, ap length starts, length-take-le v.count v.starts (omega (arith, v.few, v.table)), v.few) in
        let ok : judged_card card ≡ fine = fine_next (judged_tasks 1 1 (tasks_of card)) _ f ∙ cond-false (ltb 128 (length (boundaries card h))) (14, 0, 0) fine (le-ltb 128 _ few) in
        let law = ok_lawful card (ap (λ (j : Judged). j.0) ok) in
        (ok, same, record { frame = subst (λ (m : ℕ). Frame card m) (sym same) (lawful_frame card law); starts = starts ∙ ap (boundaries card) (sym same) })
