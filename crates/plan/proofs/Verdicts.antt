-- The writer's judgement, once the note and the counts are found right.
use Rattle.std.proofs.Common.{◌≡◌, ℕ, Bool, true, cond, ◌&&◌, eqb, leb, List, length, ap, ◌∙◌}
use Rattle.card.specs.declared.types.Card.{Card}
use Rattle.card.specs.Verdicts.{Judged, fine}
use Rattle.sheet.specs.declared.types.Sheet.{Sheet}
use Rattle.plan.specs.Plans.{file_for, judged_write}

pub judged : (note : List ℕ) (card : Card) (sheet : Sheet) (room : ℕ) (fits : Bool)
    → (leb (length note) 255 && eqb sheet.count card.count) ≡ true → leb (length (file_for note card sheet)) room ≡ fits
    → judged_write note card sheet room ≡ cond fits fine (4, 0, 0)
judged note card sheet room fits can e =
    ap (λ (b : Bool). cond {A = Judged} b (cond (leb (length (file_for note card sheet)) room) fine (4, 0, 0)) (3, 0, 0)) can ∙ ap (λ (b : Bool). cond {A = Judged} b fine (4, 0, 0)) e
