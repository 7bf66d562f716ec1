-- The plan that a file holds, and what launching a file answers.
use Rattle.std.specs.Prelude.{◌≡◌, ℕ, List, Err, Result, ◌≢◌}
use Rattle.refusal.specs.declared.SheetFault.{SheetFault}
use Rattle.refusal.specs.Table.{numbered, sheet_told}
use Rattle.card.specs.declared.types.Card.{Card}
use Rattle.card.specs.Verdicts.{fine}
use Rattle.sheet.specs.declared.types.Sheet.{Sheet}
use Rattle.sheet.specs.Verdicts.{judged}
use Rattle.local.specs.Meaning.{Local}
use Rattle.dispatch.specs.declared.state.Dispatcher.{Dispatcher}
use Rattle.dispatch.specs.Launched.{Launched}
use Rattle.plan.specs.File.{judged_file}
use Rattle.plan.specs.Plans.{CardRead, SheetRead, OneCard, OneSheet}

-- a file that passes every check of its own, and the one card and the one sheet that it holds
pub record PlanIn (bs : List ℕ) (card : Card) (sheet : Sheet) : Type 0 where
  pub passes : judged_file bs ≡ fine
  pub tasks : CardRead bs card
  pub shares : SheetRead bs sheet
  pub one_card : OneCard bs card
  pub one_sheet : OneSheet bs sheet

-- a file that fails a check of its own, and the fault that tells the first
pub record NoPlan (bs : List ℕ) (e : SheetFault) : Type 0 where
  pub fails : judged_file bs ≡ fine → ⊥
  pub told : sheet_told e ≡ numbered (judged_file bs)

-- the first check that fails: the file's, then the card's, then the sheet's
pub data RefusedPlan (bs : List ℕ) (e : SheetFault) : Type 0 where
  by_file : NoPlan bs e → RefusedPlan bs e
  by_plan : (card : Card) (sheet : Sheet) → PlanIn bs card sheet → (judged card sheet ≢ fine) → sheet_told e ≡ numbered (judged card sheet) → RefusedPlan bs e

-- the file's own refusal, or else what launching the card and the sheet that it holds answers
pub data LaunchedFile {S : Type 0} (m : Local S) (bs : List ℕ) (s : S) (first : ℕ) : Result (Dispatcher S) SheetFault → Type 0 where
  no_plan : (e : SheetFault) → NoPlan bs e → LaunchedFile m bs s first (Err e)
  a_plan : (card : Card) (sheet : Sheet) (r : Result (Dispatcher S) SheetFault) → PlanIn bs card sheet → Launched m card sheet s first r → LaunchedFile m bs s first r
