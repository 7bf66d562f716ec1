-- A placement that has a task or an interval holds a card and a sheet, and what follows of them.
use Rattle.std.proofs.Common.{◌≡◌, ℕ, ◌+◌, ◌-◌, ◌<◌, ◌≤◌, true, false, ltb, List, [], length, get_or, Some, None, Option, sym, refl, ap, ◌∙◌, subst, arith}
use Rattle.std.proofs.lemmas.Bool.{cond-true, lt-ltb, true≢false}
use Rattle.card.specs.declared.types.Card.{Card}
use Rattle.card.specs.Cards.{span, tasks_of, nobody}
use Rattle.card.specs.Verdicts.{frame_of}
use Rattle.sheet.specs.declared.types.Sheet.{Sheet}
use Rattle.sheet.specs.declared.placement.Placement.{Placement}
use Rattle.sheet.specs.Sheets.{row}
use Rattle.sheet.specs.Held.{held, asked, cores_in, count_in, task_in, tasks_in, rows_in, start_in, row_at_in, Holds}
use Rattle.std.proofs.lemmas.List.{length-take}
use Rattle.std.proofs.lemmas.Option.{none-some}
use Rattle.local.specs.Meaning.{Fit}
use Rattle.dispatch.proofs.Fits.{fit_of}
use Rattle.dispatch.proofs.Placed.{good_held, meets_held}

abbrev pub Filled : Option (Card × Sheet) → Type 0
Filled o = (card : Card) × (sheet : Sheet) × (o ≡ Some (card, sheet))

pub by_task : (o : Option (Card × Sheet)) (i : ℕ) → i < count_in o → Filled o
by_task None i l = absurd (omega arith)
by_task (Some q) i l = (q.0, q.1, refl)

pub by_row : (o : Option (Card × Sheet)) (k : ℕ) → k < rows_in o → Filled o
by_row None k l = absurd (omega arith)
by_row (Some q) k l = (q.0, q.1, refl)

-- the answer of `is_empty`
pub by_full : (o : Option (Card × Sheet)) → asked true (λ _ _. false) o ≡ false → Filled o
by_full None e = absurd (true≢false e)
by_full (Some q) e = (q.0, q.1, refl)

pub not_empty : (o : Option (Card × Sheet)) → asked true (λ _ _. false) o ≡ false → o ≡ None → ⊥
not_empty o e none = let q = by_full o e in none-some (q.0, q.1) (sym none ∙ q.2)

-- the tasks, and each of them
pub tasks_count : (o : Option (Card × Sheet)) → length (tasks_in o) ≡ count_in o
tasks_count None = refl
tasks_count (Some q) = let few = q.0.few_tasks in let table = q.0.table in omega (arith, length-take q.0.count q.0.tasks)

pub task_among : (o : Option (Card × Sheet)) (i : ℕ) → get_or (tasks_in o) i nobody ≡ task_in o i
task_among None i = refl
task_among (Some q) i = refl

-- a task that is there has a period, and its number is one of 32
pub period_there : (p : Placement) (i : ℕ) → i < count_in (held p) → 1 ≤ (task_in (held p) i).period
period_there p i l =
    let q = by_task (held p) i l in
    let g = good_held p q.0 q.1 q.2 in
    subst (λ (o : Option (Card × Sheet)). 1 ≤ (task_in o i).period) (sym q.2) (g.periods i (subst (λ (o : Option (Card × Sheet)). i < count_in o) q.2 l))

pub few_there : (p : Placement) → count_in (held p) ≤ 32
few_there p = go (held p)
  where
    go : (o : Option (Card × Sheet)) → count_in o ≤ 32
    go None = omega arith
    go (Some q) = q.0.few_tasks

-- what is asked of the placement to load interval k is what its card and its sheet say
abbrev pub Load : Type 0
Load = ℕ × ℕ × List ℕ

module _ (p : Placement) (card : Card) (sheet : Sheet) (h : Holds p card sheet) (k : ℕ) (within : k < sheet.rows) where
  abbrev pub meant : Load
  meant = (card.cores, span card (frame_of (tasks_of card)) k, row sheet k)

  row_there : row_at_in (held p) k ≡ row sheet k
  row_there = ap (λ (o : Option (Card × Sheet)). row_at_in o k) h ∙ cond-true (ltb k sheet.rows) (row sheet k) [] (lt-ltb k sheet.rows within)

  pub meant_by : (cores len : ℕ) (shares : List ℕ) → cores ≡ cores_in (held p) → len ≡ start_in (held p) (k + 1) - start_in (held p) k → shares ≡ row_at_in (held p) k → ◌≡◌ {A = Load} (cores, len, shares) meant
  meant_by cores len shares c l s =
      let cores_is : cores ≡ card.cores = c ∙ ap cores_in h in
      let span_is : len ≡ span card (frame_of (tasks_of card)) k = l ∙ ap (λ (o : Option (Card × Sheet)). start_in o (k + 1) - start_in o k) h in
      let row_is : shares ≡ row sheet k = s ∙ row_there in
      λ i. (cores_is i, span_is i, row_is i)

  pub fit_there : Fit meant.0 meant.1 meant.2
  fit_there = fit_of card (frame_of (tasks_of card)) sheet (good_held p card sheet h) (meets_held p card sheet h) k within
