-- The smallest plan as a file, and all that the promises of a run ask for, met by it.
use Rattle.std.specs.Prelude.{ℕ, List, [], ◌∷◌}
use Rattle.card.specs.declared.types.Card.{Card}
use Rattle.card.specs.Lawful.{Lawful}
use Rattle.sheet.specs.declared.types.Sheet.{Sheet}
use Rattle.sheet.specs.Held.{Holds}
use Rattle.sheet.specs.Timetables.{Placed}
use Rattle.local.specs.Meaning.{Fresh}
use Rattle.wrap.specs.declared.state.Wrap.{Wrap}
use Rattle.wrap.specs.Told.{told}
use Rattle.dispatch.specs.declared.state.Dispatcher.{Dispatcher}
use Rattle.dispatch.specs.Promise.{Promise}
use Rattle.dispatch.specs.Runs.{Call, Run}
use Rattle.startup.specs.Startup.{PlanIn}

-- task (2, 1) on one core, the share 1, no note
abbrev pub smallest : List ℕ
smallest = 0 ∷ 0 ∷ 0 ∷ 2 ∷ 0 ∷ 0 ∷ 0 ∷ 1 ∷ 0 ∷ 0 ∷ 0 ∷ 1 ∷ 0 ∷ 0 ∷ 0 ∷ 0 ∷ 0 ∷ 0 ∷ 0 ∷ 8 ∷ 1 ∷ 1 ∷ 0 ∷ 1 ∷ []

-- a file, a lawful card, a sheet with a timetable, an accepted placement, a new scheduler, and a dispatcher that keeps the promise
pub record Running (d : Dispatcher Wrap) : Type 0 where
  pub card : Card
  pub sheet : Sheet
  pub file : PlanIn smallest card sheet
  pub lawful : Lawful card
  pub placed : Placed card sheet
  pub held : Holds d.placement card sheet
  pub scheduler : Wrap
  pub new : Fresh told scheduler
  pub promise : (calls : List Call) (e : Dispatcher Wrap) → Run told d calls e → Promise told card sheet scheduler 0 calls
