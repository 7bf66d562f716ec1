-- Where a dispatcher goes before it hands out a slice.
use Rattle.std.specs.Prelude.{◌≡◌, ℕ, ◌≤◌, Bool, true, false, Ok, Err, Result}
use Rattle.refusal.specs.declared.DispatchFault.{DispatchFault}
use Rattle.refusal.specs.declared.DispatchFault.TheVariants.{LastFrame}
use Rattle.card.specs.declared.types.Card.{Card}
use Rattle.card.specs.Cards.{span}
use Rattle.sheet.specs.declared.types.Sheet.{Sheet}
use Rattle.sheet.specs.Sheets.{row}
use Rattle.local.specs.Meaning.{Local, Loaded}
use Rattle.dispatch.specs.declared.place.Place.TheVariants.{In}
use Rattle.dispatch.specs.declared.state.Dispatcher.{Dispatcher}
use Rattle.dispatch.specs.Runs.{Where}
use Rattle.dispatch.specs.Runs.Where.{inside, at_start, past}

-- the dispatcher d has gone to d', and told frame and interval of the next slice, and whether it loaded that interval
abbrev pub Advanced : {S : Type 0} → Local S → Card → Sheet → ℕ → Dispatcher S → Result (ℕ × ℕ × Bool) DispatchFault → Dispatcher S → Where → Type 0
Advanced m card sheet h d r d' (inside f k) = (r ≡ Ok (f, k, false)) × (d' ≡ d) × (1 ≤ m.left d.scheduler) × (d.place ≡ In f k)
Advanced m card sheet h d r d' (at_start f k) = (r ≡ Ok (f, k, true)) × Loaded m d.scheduler card.cores (span card h k) (row sheet k) d'.scheduler × (d'.placement ≡ d.placement) × (d'.books ≡ d.books) × (d'.place ≡ In f k)
Advanced m card sheet h d r d' past = (r ≡ Err LastFrame) × (d' ≡ d)
