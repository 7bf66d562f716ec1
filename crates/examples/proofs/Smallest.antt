-- The smallest plan passes every check.
use Rattle.std.proofs.Common.{◌≡◌, true, eqb, [], ◌∷◌, Ok, Err, Result, IsOk, sym, refl, ap, ◌∙◌, ap₂, rules, lit≤}
use Prim.{tt}
use Rattle.refusal.specs.declared.Refusal.{Refusal}
use Rattle.refusal.specs.declared.SheetFault.{SheetFault}
use Rattle.card.specs.declared.types.Card.{Card}
use Rattle.card.specs.Verdicts.{Judged, fine, judged_card}
use Rattle.sheet.specs.declared.types.Sheet.{Sheet}
use Rattle.sheet.specs.Verdicts.{judged}
use Rattle.sheet.proofs.Answered.{sheet_bad}
use Rattle.local.specs.Meaning.{Local}
use Rattle.dispatch.specs.declared.state.Dispatcher.{Dispatcher}
use Rattle.dispatch.specs.Launched.{Launched}
use Rattle.plan.specs.File.{field, judged_file}
use Rattle.plan.specs.Plans.{CardRead, SheetRead}
use Rattle.startup.specs.Startup.{PlanIn, LaunchedFile}
use Rattle.startup.specs.Startup.LaunchedFile.{no_plan, a_plan}
use Rattle.examples.specs.Instance.{smallest}
use Rattle.examples.specs.Samples.{task, card_of, sheet_of}

card₀ : Card
card₀ = card_of 1 (task 2 1 ∷ []) (lit≤ tt) (lit≤ tt) (lit≤ tt) (lit≤ tt)

sheet₀ : Sheet
sheet₀ = sheet_of 1 1 (1 ∷ []) (lit≤ tt) (lit≤ tt) (lit≤ tt) (lit≤ tt) refl (lit≤ tt)

passes : judged_file smallest ≡ fine
unfolding field
passes = refl

card_read : CardRead smallest card₀
unfolding field card₀
card_read = record { cores = refl; count = refl; tasks = refl; back = refl }

sheet_read : SheetRead smallest sheet₀
unfolding field sheet₀
sheet_read = record { rows = refl; count = refl; shares = refl; back = refl }

accepted : judged card₀ sheet₀ ≡ fine
unfolding card₀ sheet₀
accepted = refl

lawful : eqb (judged_card card₀).0 0 ≡ true
unfolding card₀
lawful = refl

module _ (card : Card) (sheet : Sheet) (plan : PlanIn smallest card sheet) where
  pub is_fine : judged card sheet ≡ fine
  is_fine = ap₂ judged (sym (plan.one_card card₀ card_read)) (sym (plan.one_sheet sheet₀ sheet_read)) ∙ accepted

  pub is_lawful : eqb (judged_card card).0 0 ≡ true
  is_lawful = ap (λ (c : Card). eqb (judged_card c).0 0) (sym (plan.one_card card₀ card_read)) ∙ lawful

-- launching it is launching the card and the sheet that it holds
pub launched : {S : Type 0} (m : Local S) (s : S) {r : Result (Dispatcher S) SheetFault} → LaunchedFile m smallest s 0 r → (card : Card) × (sheet : Sheet) × PlanIn smallest card sheet × Launched m card sheet s 0 r
launched m s (no_plan e none) = absurd (none.fails passes)
launched m s (a_plan card sheet r plan l) = (card, sheet, plan, l)

pub runs : {S : Type 0} (m : Local S) (s : S) (r : Result (Dispatcher S) SheetFault) → LaunchedFile m smallest s 0 r → IsOk r
runs m s (Ok d) l = search rules
runs m s (Err e) l =
    let p = launched m s l in
    absurd (sheet_bad e (ap (λ (r : Refusal). r.number) p.3.judgement ∙ ap (λ (j : Judged). j.0) (is_fine p.0 p.1 p.2)))
