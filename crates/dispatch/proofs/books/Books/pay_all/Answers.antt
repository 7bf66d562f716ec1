use Rattle.std.proofs.Common.{◌≡◌, ℕ, ◌+◌, ◌*◌, ◌<◌, ◌≤◌, Bool, cond, ◌≢◌, List, length, get_or, set, sym, ap, ◌∙◌, subst, arith, below_more}
use native.Mathlib.Nat as law
use Rattle.card.specs.declared.types.Task.{Task}
use Rattle.card.specs.Cards.{nobody}
use Rattle.sheet.specs.declared.placement.Placement.{Placement}
use Rattle.local.specs.Meaning.{seated}
use Rattle.sheet.specs.Held.{held, count_in, task_in, tasks_in}
use Rattle.std.proofs.lemmas.List.{get_or-set_same, get_or-set_other, length-set}
use Rattle.dispatch.specs.declared.books.Account.{Account}
use Rattle.dispatch.specs.Books.{nothing, paid, paid_to, anew}
use Rattle.dispatch.proofs.Filled.{period_there, few_there, tasks_count, task_among}
use Rattle.dispatch.proofs.books.Books.pay_all.Goals as goal

-- the loop's task is that of the placement
task_now : {ts : List Task} (p : Placement) (i : ℕ) → ts ≡ tasks_in (held p) → get_or ts i nobody ≡ task_in (held p) i
task_now p i e = ap (λ (ts : List Task). get_or ts i nobody) e ∙ task_among (held p) i

pub renews-requires : goal.renews-requires
renews-requires c =
    let p = c.args.placement.now in
    let items = c.tasks-task-items.ensures in
    let here : c.loop-i.i < count_in (held p) = omega (arith, c.loop-i-test.true, ap length items, tasks_count (held p)) in
    subst (λ (t : Task). 1 ≤ t.period) (sym (task_now p c.loop-i.i items)) (period_there p c.loop-i.i here)

pub loop-i-preserved : goal.loop-i-preserved
loop-i-preserved c =
    let p = c.args.placement.now in
    let xs = c.loop-i.self.accounts in
    let i = c.loop-i.i in
    let z = c.args.slice.now in
    let items = c.tasks-task-items.ensures in
    let here : i < count_in (held p) = omega (arith, c.loop-i-test.true, ap length items, tasks_count (held p)) in
    let there : i < length xs = omega (arith, here, few_there p, c.loop-i.invariant.6) in
    let t : Task = get_or c.tasks-task-items.result.now i nobody in
    let task : t ≡ task_in (held p) i = task_now p i items in
    let pays : Task → Bool → Account → ℕ → Account = λ t b a n. paid t.run_time (cond b t.run_time a.owed) n in
    let v : Account = pays t c.renews.result (get_or xs i nothing) c.ticks_for-ticks.result in
    let after : c.pay.new.self.accounts ≡ set xs i v = c.pay.ensures.accounts in
    let renewed = c.renews.ensures in
    let ticks = c.ticks_for-ticks.ensures in
    let old : get_or xs i nothing ≡ get_or c.args.self.now.accounts i nothing = c.loop-i.invariant.1 i (law.le_refl i) in
    let paying : v ≡ paid_to c.args.self.now c.args.first c.args.tick z i (task_in (held p) i) =
    ap (λ (n : ℕ). pays t c.renews.result (get_or xs i nothing) n) ticks
    ∙ ap (λ (a : Account). pays t c.renews.result a (seated z (i + 1) * z.length)) old
    ∙ ap (λ (b : Bool). pays t b (get_or c.args.self.now.accounts i nothing) (seated z (i + 1) * z.length)) renewed
    ∙ ap (λ (t : Task). pays t (anew c.args.first c.args.tick t) (get_or c.args.self.now.accounts i nothing) (seated z (i + 1) * z.length)) task in
    let other : (k : ℕ) → k ≢ i → get_or c.pay.new.self.accounts k nothing ≡ get_or xs k nothing = λ k ne. ap (λ (ys : List Account). get_or ys k nothing) after ∙ get_or-set_other xs i k v nothing ne in (
      below_more _ i
          (λ k l. other k (λ e. omega (arith, l, e)) ∙ c.loop-i.invariant.0 k l)
          (ap (λ (ys : List Account). get_or ys i nothing) after ∙ get_or-set_same xs i v nothing there ∙ paying),
      (λ k l. other k (λ e. omega (arith, l, e)) ∙ c.loop-i.invariant.1 k (omega (arith, l))),
      c.pay.ensures.slices ∙ c.loop-i.invariant.2,
      c.pay.ensures.switches ∙ c.loop-i.invariant.3,
      c.pay.ensures.busy ∙ c.loop-i.invariant.4,
      c.pay.ensures.seats ∙ c.loop-i.invariant.5,
      ap length after ∙ length-set xs i v ∙ c.loop-i.invariant.6,
    )
