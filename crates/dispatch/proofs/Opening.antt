-- A dispatcher that is made with opened accounts and zero tallies is begun.
use Rattle.std.proofs.Common.{◌≡◌, ℕ, ◌<◌, List, get_or, Option, ap, ◌∙◌, arith}
use Rattle.card.specs.declared.types.Card.{Card}
use Rattle.sheet.specs.declared.types.Sheet.{Sheet}
use Rattle.sheet.specs.declared.placement.Placement.{Placement}
use Rattle.card.specs.Cards.{run_time_of}
use Rattle.sheet.specs.Held.{task_in, Holds}
use Rattle.dispatch.specs.declared.books.Account.{Account}
use Rattle.dispatch.specs.declared.books.Books.{Books}
use Rattle.dispatch.specs.declared.place.Place.TheVariants.{Before}
use Rattle.dispatch.specs.declared.state.Dispatcher.{Dispatcher}
use Rattle.dispatch.specs.Books.{Opened, nothing}
use Rattle.dispatch.specs.Runs.{Begun}

-- opened accounts owe the run times of the card that is held
pub owing : (p : Placement) (accounts : List Account) → Opened p accounts → (card : Card) (sheet : Sheet) → Holds p card sheet → (i : ℕ) → i < card.count → get_or accounts i nothing ≡ record { given = 0; owed = run_time_of card i }
owing p accounts opened card sheet held i l = opened i (omega (arith, card.few_tasks)) ∙ ap (λ (o : Option (Card × Sheet)). let a : Account = record { given = 0; owed = (task_in o i).run_time } in a) held

-- books with no slice in them
abbrev pub Blank : Books → Type 0
Blank b = (b.slices ≡ 0) × (b.switches ≡ 0) × (b.busy ≡ 0)

pub begun_of : {S : Type 0} {p : Placement} {s : S} {first : ℕ} {d : Dispatcher S} → d.placement ≡ p → d.scheduler ≡ s → d.place ≡ Before first → Blank d.books → Opened p d.books.accounts → Begun p s first d
begun_of {p = p} {d = d} held over place blank opened = record { held = held; over = over; place = place; accounts = owing p d.books.accounts opened; no_slices = blank.0; no_switches = blank.1; no_busy = blank.2 }
