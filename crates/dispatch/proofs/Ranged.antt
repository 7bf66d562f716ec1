-- The interval of a dispatcher is one of the sheet that it holds.
use Rattle.std.proofs.Common.{◌≡◌, ℕ, ◌<◌, true, Some, Option, sym, ap, ◌∙◌}
use Rattle.std.proofs.lemmas.Bool.{ltb-true}
use Rattle.card.specs.declared.types.Card.{Card}
use Rattle.sheet.specs.declared.types.Sheet.{Sheet}
use Rattle.sheet.specs.Held.{held, Holds}
use Rattle.dispatch.specs.declared.place.Place.TheVariants.{In}
use Rattle.dispatch.specs.declared.state.Dispatcher.{Dispatcher}
use Rattle.dispatch.specs.Places.{ranged}

pub in_range : {S : Type 0} (d : Dispatcher S) (card : Card) (sheet : Sheet) → Holds d.placement card sheet → (f k : ℕ) → d.place ≡ In f k → k < sheet.rows
in_range d card sheet holds f k at =
    let e : ranged (Some (card, sheet)) (In f k) ≡ true = ap (λ (o : Option (Card × Sheet)). ranged o (In f k)) (sym holds) ∙ ap (ranged (held d.placement)) (sym at) ∙ d.in_range in
    ltb-true k sheet.rows e
