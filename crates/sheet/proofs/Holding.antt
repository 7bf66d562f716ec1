-- What a placement holds is lawful, its sheet meets the equations of the card's frame, and it keeps that frame and its boundaries.
use Rattle.std.proofs.Common.{◌≡◌, ℕ, Some, None, Option, unwrap_or, refl, ap, subst, arith}
use Rattle.std.specs.Option.{option_map}
use Rattle.std.proofs.lemmas.Option.{same_Some, none-some}
use Rattle.card.specs.declared.types.Card.{Card}
use Rattle.card.specs.Cards.{tasks_of}
use Rattle.card.specs.Lawful.{Lawful}
use Rattle.card.specs.Verdicts.{frame_of, fine}
use Rattle.sheet.specs.declared.types.Sheet.{Sheet}
use Rattle.sheet.specs.declared.placement.Plan.{Plan}
use Rattle.sheet.specs.declared.placement.Placement.{Placement}
use Rattle.sheet.specs.Held.{planned, Holds}
use Rattle.sheet.specs.Verdicts.{judged, Meets}
use Rattle.sheet.proofs.Agreement.{ok_fine, fine_lawful, fine_meets}

-- the plan of a placement that holds a card and a sheet
pub plan_of : (o : Option Plan) (card : Card) (sheet : Sheet) → option_map planned o ≡ Some (card, sheet) → (plan : Plan) × (o ≡ Some plan) × (plan.card ≡ card) × (plan.sheet ≡ sheet)
plan_of None card sheet e = absurd (none-some (card, sheet) e)
plan_of (Some plan) card sheet e =
    let p = same_Some (planned plan) (card, sheet) e in
    (plan, refl, ap (λ (q : Card × Sheet). q.0) p, ap (λ (q : Card × Sheet). q.1) p)

pub held_fine : (p : Placement) (card : Card) (sheet : Sheet) → Holds p card sheet → judged card sheet ≡ fine
held_fine p card sheet h =
    let q = plan_of p.plan card sheet h in
    subst (λ c. judged c sheet ≡ fine) q.2 (subst (λ s. judged q.0.card s ≡ fine) q.3 (ok_fine q.0.card q.0.sheet q.0.accepted))

pub held_good : (p : Placement) (card : Card) (sheet : Sheet) → Holds p card sheet → Lawful card × Meets card (frame_of (tasks_of card)) sheet
held_good p card sheet h =
    let e = held_fine p card sheet h in
    let l = fine_lawful card sheet e in
    (l, fine_meets card sheet l e)
