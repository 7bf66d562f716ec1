-- What is known of a dispatcher over IZL, whatever was called on it before.
use Rattle.std.specs.Prelude.{◌≡◌, Result, IfOk, length}
use Rattle.refusal.specs.declared.DispatchFault.{DispatchFault}
use Rattle.local.specs.Meaning.{Handed}
use Rattle.izl_rule.specs.Invariant.{Sound}
use Rattle.izl.specs.declared.state.Izl.{Izl}
use Rattle.izl.specs.Told.{told}
use Rattle.izl.specs.Served.{Busy}
use Rattle.dispatch.specs.declared.state.Dispatcher.{Dispatcher}
use Rattle.dispatch.specs.declared.Stamped.{Stamped}

-- its scheduler's state is sound, and there is an account for each task that a card can have
pub record Known (d : Dispatcher Izl) : Type 0 where
  pub sound : Sound d.scheduler.state
  pub accounts : length d.books.accounts ≡ 32

-- a slice that led to d was handed out with no core idle while a task waited
abbrev pub NoneIdle : Result Stamped DispatchFault → Dispatcher Izl → Type 0
NoneIdle r d = IfOk r (λ z. (s : Izl) × Handed told s z.slice d.scheduler × Busy s z.slice)
