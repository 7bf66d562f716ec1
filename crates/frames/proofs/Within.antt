-- A slice that begins in the first frame of a run ends in it, and there is one while that frame is not over.
use Rattle.std.proofs.Common.{◌≡◌, ℕ, suc, ◌+◌, ◌*◌, ◌^◌, ◌<◌, ◌≤◌, List, [], ◌∷◌, ◌++◌, length, Ok, Err, Result, IsOk, ap, ◌∙◌, ⊎_elim, arith, rules}
use native.Mathlib.Nat as law
use Rattle.std.proofs.lemmas.List.{get_or_past, length_push}
use Rattle.std.proofs.lemmas.Bool.{cases_lt}
use Rattle.refusal.specs.declared.DispatchFault.{DispatchFault}
use Rattle.chart.proofs.Rising.{below}
use Rattle.card.specs.declared.types.Card.{Card}
use Rattle.card.specs.Cards.{Frame, boundaries, begins}
use Rattle.card.proofs.Bounds.{frame_marked}
use Rattle.card.proofs.Frames.{frame_one}
use Rattle.sheet.specs.declared.types.Sheet.{Sheet}
use Rattle.local.specs.Meaning.{Local}
use Rattle.dispatch.specs.declared.Stamped.{Stamped}
use Rattle.dispatch.specs.Counts.{ticks}
use Rattle.dispatch.specs.Promise.{Promise}
use Rattle.dispatch.specs.Runs.{Call, handed}
use Rattle.dispatch.specs.Runs.Call.{next_slice}

-- no interval begins or ends behind the frame
begins_within : (card : Card) (h k : ℕ) → Frame card h → begins card h k ≤ h
begins_within card h k f =
    let m = frame_marked card h f in
    let n : ℕ = length (boundaries card h) in
    ⊎_elim
    (λ (past : n < k). let e = get_or_past (boundaries card h ++ h ∷ []) k h (omega (arith, past, length_push (boundaries card h) h)) in omega (arith, e))
    (λ (in_it : k ≤ n). omega (arith, m.end, below (begins card h) n m.rise k n in_it (law.le_refl n)))
    (cases_lt n k)

module _ {S : Type 0} {m : Local S} {card : Card} {sheet : Sheet} {s : S} {number h : ℕ} (frame : Frame card h) where
  pub same_frame : {calls : List Call} (p : Promise m card sheet s number calls) → p.h ≡ h
  same_frame p = frame_one card p.h h p.frame frame

  pub ends_within : {calls : List Call} → Promise m card sheet s number calls → (early : List Stamped) (z : Stamped) → handed calls ≡ early ++ z ∷ [] → ticks early < h → (1 ≤ z.slice.length) × (ticks early + z.slice.length ≤ h)
  ends_within p early z e l =
      let q = p.kept.inside early [] z e in
      let i = q.1 in
      let same = same_frame p in
      let f = i.0 in
      let top = begins_within card p.h (i.1 + 1) p.frame in (
        q.0,
        ⊎_elim
            (λ (first : f < 1). let z' : f ≡ 0 = omega (arith, first) in let none : f * p.h ≡ 0 = ap (λ (n : ℕ). n * p.h) z' ∙ law.zero-mul p.h in omega (arith, none, i.4, top, same))
            (λ (later : 1 ≤ f). let far : 1 * p.h ≤ f * p.h = law.mul-le-mul_right p.h later in absurd (omega (arith, far, law.one-mul p.h, i.3, same, l)))
            (cases_lt f 1),
      )

  pub hands_out : {calls : List Call} (r : Result Stamped DispatchFault) → number < 2 ^ 32 → Promise m card sheet s number (next_slice r ∷ calls) → ticks (handed calls) < h → IsOk r
  hands_out (Ok z) early p l = search rules
  hands_out {calls} (Err e) early p l =
      let same = same_frame p in
      let room : suc number * p.h ≤ 2 ^ 32 * p.h = law.mul-le-mul_right p.h early in
      absurd (p.told.0.0 (omega (arith, room, law.suc-mul number p.h, same, l)))
