-- Cards, and sheets, with the same counts and contents are equal values.
use Rattle.std.proofs.Common.{◌≡◌, ℕ, ◌*◌, ◌≤◌, List, length, get_or, take, sym, ap, ◌∙◌, ⊎_elim, arith}
use native.Mathlib.Bridge.{le_prop}
use native.Mathlib.Nat.{ℕ_set}
use mathlib.Core.HLevel.{is_prop→PathP, Π_prop}
use Rattle.std.proofs.lemmas.List.{ext_get_or, get_or-take}
use Rattle.std.proofs.lemmas.Bool.{cases_lt}
use Rattle.card.specs.declared.types.Card.{Card}
use Rattle.card.specs.declared.types.Task.{Task}
use Rattle.card.specs.Cards.{nobody, tasks_of}
use Rattle.sheet.specs.declared.types.Sheet.{Sheet}
use Rattle.plan.specs.Plans.{CardRead, OneCard, OneSheet, SheetRead, shares_of}

-- lists of one length that agree on a front and behind it
same_list : {X : Type 0} (d : X) (xs ys : List X) (n : ℕ) → length xs ≡ length ys → take n xs ≡ take n ys
    → ((i : ℕ) → n ≤ i → get_or xs i d ≡ d) → ((i : ℕ) → n ≤ i → get_or ys i d ≡ d) → xs ≡ ys
same_list d xs ys n size front p q =
    ext_get_or d xs ys size (λ i _. ⊎_elim (λ l. sym (get_or-take n xs i d l) ∙ ap (λ zs. get_or zs i d) front ∙ get_or-take n ys i d l) (λ l. p i l ∙ sym (q i l)) (cases_lt i n))

-- a task is its two numbers, so two equations between tasks are one
task_set : (s t : Task) (p q : s ≡ t) → p ≡ q
task_set s t p q = λ i j. record { period = ℕ_set _ _ (ap (λ (u : Task). u.period) p) (ap (λ (u : Task). u.period) q) i j; run_time = ℕ_set _ _ (ap (λ (u : Task). u.run_time) p) (ap (λ (u : Task). u.run_time) q) i j }

pub same_card : (a b : Card) → a.cores ≡ b.cores → a.count ≡ b.count → tasks_of a ≡ tasks_of b → a ≡ b
same_card a b p q front =
    let r : a.tasks ≡ b.tasks =
    same_list nobody a.tasks b.tasks a.count (a.table ∙ sym b.table) (front ∙ ap (λ (n : ℕ). take n b.tasks) (sym q)) a.rest (λ i l. b.rest i (omega arith)) in
    λ j.
    record {
      cores = p j;
      count = q j;
      tasks = r j;
      some_cores = is_prop→PathP (λ k. 1 ≤ p k) (λ k. le_prop) a.some_cores b.some_cores j;
      few_cores = is_prop→PathP (λ k. p k ≤ 16) (λ k. le_prop) a.few_cores b.few_cores j;
      some_tasks = is_prop→PathP (λ k. 1 ≤ q k) (λ k. le_prop) a.some_tasks b.some_tasks j;
      few_tasks = is_prop→PathP (λ k. q k ≤ 32) (λ k. le_prop) a.few_tasks b.few_tasks j;
      table = is_prop→PathP (λ k. length (r k) ≡ 32) (λ k. ℕ_set _ _) a.table b.table j;
      rest = is_prop→PathP (λ k. (i : ℕ) → q k ≤ i → get_or (r k) i nobody ≡ nobody) (λ k. Π_prop (λ i. Π_prop (λ _. task_set _ _))) a.rest b.rest j;
    }

pub same_sheet : (a b : Sheet) → a.rows ≡ b.rows → a.count ≡ b.count → shares_of a ≡ shares_of b → a ≡ b
same_sheet a b p q front =
    let cells : a.rows * a.count ≡ b.rows * b.count = cc in
    let r : a.shares ≡ b.shares =
    same_list 0 a.shares b.shares (a.rows * a.count) (a.table ∙ sym b.table) (front ∙ ap (λ (n : ℕ). take n b.shares) (sym cells)) a.rest (λ i l. b.rest i (omega arith)) in
    λ j.
    record {
      rows = p j;
      count = q j;
      shares = r j;
      some_rows = is_prop→PathP (λ k. 1 ≤ p k) (λ k. le_prop) a.some_rows b.some_rows j;
      few_rows = is_prop→PathP (λ k. p k ≤ 128) (λ k. le_prop) a.few_rows b.few_rows j;
      some_shares = is_prop→PathP (λ k. 1 ≤ q k) (λ k. le_prop) a.some_shares b.some_shares j;
      few_shares = is_prop→PathP (λ k. q k ≤ 32) (λ k. le_prop) a.few_shares b.few_shares j;
      table = is_prop→PathP (λ k. length (r k) ≡ 4096) (λ k. ℕ_set _ _) a.table b.table j;
      rest = is_prop→PathP (λ k. (i : ℕ) → p k * q k ≤ i → get_or (r k) i 0 ≡ 0) (λ k. Π_prop (λ i. Π_prop (λ _. ℕ_set _ _))) a.rest b.rest j;
    }

pub one_card : (bs : List ℕ) (card : Card) → CardRead bs card → OneCard bs card
one_card bs card is = λ other same. same_card other card (same.cores ∙ sym is.cores) (same.count ∙ sym is.count) (same.tasks ∙ sym is.tasks)

pub one_sheet : (bs : List ℕ) (sheet : Sheet) → SheetRead bs sheet → OneSheet bs sheet
one_sheet bs sheet is = λ other same. same_sheet other sheet (same.rows ∙ sym is.rows) (same.count ∙ sym is.count) (same.shares ∙ sym is.shares)
