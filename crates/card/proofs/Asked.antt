-- The period and the tick of a window that is asked for are within their limits.
use Rattle.std.proofs.Common.{◌≡◌, ℕ, ◌<◌, ◌≤◌, List, [], ◌∷◌, ◌++◌, length, get_or, Bool, true, false, cond, Ok, Err, Result, Some, None, ap, ⊎_elim, arith}
use Rattle.std.specs.Result.{result_ok}
use Rattle.refusal.specs.declared.CardFault.{CardFault}
use Rattle.card.proofs.Checks.{Answered}
use native.Mathlib.Nat as law
use Rattle.std.specs.List.{range_with_len, AllByRecursion}
use Rattle.std.proofs.lemmas.List.FromFn.{length-range_with_len, get_or-range_with_len}
use Rattle.std.proofs.ByRecursion.{All-get_or, All-from_get_or, all_kept_by, All-push}
use Rattle.std.proofs.lemmas.List.{get_or_past}
use Rattle.std.proofs.lemmas.Bool.{cases_lt}
use Rattle.card.specs.declared.types.Card.{Card}
use Rattle.card.specs.declared.types.Intervals.{Intervals}
use Rattle.card.specs.Cards.{tasks_of, period_of, boundary, boundaries, begins}
use Rattle.card.specs.Lawful.{Lawful}
use Rattle.card.specs.Times.{Times, start_of}
use Rattle.card.specs.Verdicts.{Judged, fine, frame_of, judged_card}
use Rattle.card.proofs.CardsJudged.{ok_lawful}
use Rattle.card.proofs.Frames.{frame_one}

begins_within : (card : Card) (h k : ℕ) → begins card h k ≤ h
begins_within card h k =
    let P : ℕ → Type 0 = λ x. x ≤ h in
    let low : AllByRecursion P (range_with_len 0 h) = All-from_get_or P (range_with_len 0 h) 0 (λ i l. omega (arith, length-range_with_len 0 h, get_or-range_with_len 0 h i 0 (omega (arith, length-range_with_len 0 h)))) in
    let all : AllByRecursion P (boundaries card h ++ h ∷ []) = All-push P (boundaries card h) h (all_kept_by (boundary card) P (range_with_len 0 h) low) (law.le_refl h) in
    ⊎_elim
    (λ within. All-get_or P (boundaries card h ++ h ∷ []) k h within all)
    (λ past. omega (arith, get_or_past (boundaries card h ++ h ∷ []) k h past))
    (cases_lt k (length (boundaries card h ++ h ∷ [])))

module _ (card : Card) (ok : judged_card card ≡ fine) where
  lawful : Lawful card
  lawful = ok_lawful card (ap (λ (j : Judged). j.0) ok)

  pub period_within : (i : ℕ) → i < card.count → (1 ≤ period_of card i) × (period_of card i ≤ 1000000)
  period_within i l = lawful.periods i l

  pub start_within : (v : Intervals) → v.frame ≡ frame_of (tasks_of card) → Times card v → (k : ℕ) → start_of v k ≤ 1000000
  start_within v same times k =
      let at : start_of v k ≡ begins card v.frame k = ap (λ (xs : List ℕ). get_or (xs ++ v.frame ∷ []) k v.frame) times.starts in
      let one : lawful.frame ≡ v.frame = frame_one card lawful.frame v.frame lawful.is_frame times.frame in
      omega (arith, at, begins_within card v.frame k, one, lawful.short)

-- the same of an interval of what a card's answer holds, if there is that interval
pub begun_within : (card : Card) (r : Result Intervals CardFault) → Answered card r → (v : Intervals) → Some v ≡ result_ok r → (there : Bool) (k x : ℕ) → cond there (Some (start_of v k)) None ≡ Some x → x ≤ 1000000
begun_within card (Ok w) a v e true k x is = let at : x ≡ start_of w k = cc in omega (arith, at, start_within card a.0 w a.1 a.2 k)
begun_within card (Ok w) a v e false k x is = absurd cc
begun_within card (Err f) a v e there k x is = absurd cc
