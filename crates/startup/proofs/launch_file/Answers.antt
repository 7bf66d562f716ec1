use Rattle.std.proofs.Common.{◌≡◌, ℕ, List, Ok, Err, Result, sym, subst, MatchResult}
use Rattle.refusal.specs.declared.SheetFault.{SheetFault}
use Rattle.card.specs.declared.types.Card.{Card}
use Rattle.sheet.specs.declared.types.Sheet.{Sheet}
use Rattle.local.specs.Meaning.{Local}
use Rattle.dispatch.specs.declared.state.Dispatcher.{Dispatcher}
use Rattle.dispatch.specs.Launched.{Launched}
use Rattle.startup.specs.Startup.{LaunchedFile, NoPlan, PlanIn}
use Rattle.startup.specs.Startup.LaunchedFile.{no_plan, a_plan}
use Rattle.startup.proofs.launch_file.Goals as goal

either : {S : Type 0} (m : Local S) (bs : List ℕ) (s : S) (first : ℕ) (r : Result (Dispatcher S) SheetFault) (plan : Result (Card × Sheet) SheetFault) → MatchResult plan (λ p. PlanIn bs p.0 p.1) (λ e. NoPlan bs e) → MatchResult plan (λ p. Launched m p.0 p.1 s first r) (λ e. r ≡ Err e) → LaunchedFile m bs s first r
either m bs s first r (Ok p) holds l = a_plan p.0 p.1 r holds l
either m bs s first r (Err e) fails l = subst (LaunchedFile m bs s first) (sym l) (no_plan e fails)

pub returns : goal.returns
returns g c = either g.S.LocalScheduler.meaning c.args.bytes.now c.args.scheduler c.args.first c.launched.result c.plan_of.result c.plan_of.ensures c.launched.ensures
