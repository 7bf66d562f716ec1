-- What acceptance and start in one call answer.
use Rattle.std.specs.Prelude.{◌≡◌, ℕ, List, is_ok, IfOk, Result, MatchResult, ◌==◌}
use Rattle.refusal.specs.declared.SheetFault.{SheetFault}
use Rattle.refusal.specs.Table.{numbered, sheet_told}
use Rattle.card.specs.declared.types.Card.{Card}
use Rattle.card.specs.Lawful.{Exactly, Lawful}
use Rattle.card.specs.Verdicts.{fine, judged_card}
use Rattle.sheet.specs.declared.types.Sheet.{Sheet}
use Rattle.sheet.specs.Held.{Holds}
use Rattle.sheet.specs.Timetables.{Agrees}
use Rattle.sheet.specs.Verdicts.{judged}
use Rattle.local.specs.Meaning.{Local}
use Rattle.dispatch.specs.declared.state.Dispatcher.{Dispatcher}
use Rattle.dispatch.specs.Promise.{Promise}
use Rattle.dispatch.specs.Runs.{Call, Run}

-- A running dispatcher over this card and sheet, the scheduler s and the frame `first`, or the first check that fails.
pub record Launched {S : Type 0} (m : Local S) (card : Card) (sheet : Sheet) (s : S) (first : ℕ) (r : Result (Dispatcher S) SheetFault) : Type 0 where
  -- with a lawful card it runs exactly when some timetable meets every deadline and has the sheet's shares
  pub agrees : Lawful card → Agrees card sheet (is_ok r)
  pub lawful : Exactly (Lawful card) ((judged_card card).0 == 0)
  pub judgement : MatchResult r (λ d. (judged card sheet ≡ fine) × Holds d.placement card sheet) (λ e. sheet_told e ≡ numbered (judged card sheet))
  -- whatever is called on it then
  pub promise : IfOk r (λ d. (calls : List Call) (e : Dispatcher S) → Run m d calls e → Promise m card sheet s first calls)
