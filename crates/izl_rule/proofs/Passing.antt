-- Time that passes keeps the invariant.
use Rattle.std.proofs.Common.{◌≡◌, ℕ, zero, suc, ◌+◌, ◌-◌, ◌*◌, ◌<◌, ◌≤◌, true, cond, eqb, ◌⊎◌, List, map, length, get_or, take, sum_by, sym, ap, ◌∙◌, inl, inr, add-mul, mul-add, arith}
use Rattle.std.specs.List.{AllByRecursion}
use Rattle.std.specs.List.Sorted.{IsNonDecreasingBy}
use Rattle.std.proofs.lemmas.List.{get_or_default, length-take-le, length-map}
use Rattle.std.proofs.lemmas.List.Sums.{get_or-le-sum_by}
use Rattle.std.proofs.ByRecursion.{All-take, All-get_or, All-from_get_or, All-map, All-weaker}
use Rattle.std.proofs.lemmas.Bool.{cases_lt}
use Rattle.izl_rule.specs.declared.Running.{Running}
use Rattle.izl_rule.specs.Rule as rule
use Rattle.izl_rule.specs.Rule.{nothing}
use Rattle.izl_rule.specs.Invariant.{Merged, Held, counted, seated}
use Rattle.izl_rule.proofs.Steps.{Job, least, most, lowered, passed, amount}
use Rattle.izl_rule.proofs.Lists.{sum_by_map, held, many, many_all, held_lowered, many_lowered, taken_lowered, length_lowered, lowered_below, lowered_above}

-- while a task waits the line has a core
pub some_core : (s : Merged) → Held s → length s.line < length s.jobs → 0 < length s.line
some_core s h w = go (length s.line) (h.unended w) (omega (arith, get_or-le-sum_by (λ (j : Job). j.amount) s.jobs (length s.line) nothing w, h.room w))
  where
    go : {a : ℕ} (k : ℕ) → 0 < a → a ≤ k * s.left → 0 < k
    go zero p q = omega arith
    go (suc k) p q = omega arith

pub rises_from : (js : List Job) → ((i j : ℕ) → i ≤ j → j < length js → (get_or js i nothing).amount ≤ (get_or js j nothing).amount) → IsNonDecreasingBy (λ j. j.amount) js
rises_from js h i j d le lt =
    let a : i < length js = omega arith in
    rw (get_or_default js i d nothing a, get_or_default js j d nothing lt) (h i j le lt)

pub all_least : (m : ℕ) (js : List Job) → IsNonDecreasingBy (λ j. j.amount) js → (0 < length js → m ≤ (get_or js 0 nothing).amount) → AllByRecursion (λ j. m ≤ j.amount) js
all_least m js r h = All-from_get_or (λ (j : Job). m ≤ j.amount) js nothing (λ k lt. omega (arith, r 0 k nothing (omega arith) lt, h (omega arith)))

pub le_most : (s : Merged) → Held s → (k : ℕ) → k < length s.jobs → (get_or s.jobs k nothing).amount ≤ most s
le_most s h k lt = h.rises k (length s.jobs - 1) nothing (omega arith) (omega arith)

-- time passes that no job on the line exceeds, and that leaves room for all that wait
module _ (s : Merged) (h : Held s) (t : ℕ) (on : 0 < length s.jobs → t ≤ least s) (off : length s.line < length s.jobs → t + most s ≤ s.left) (within : t ≤ s.left) where
  pub enough : AllByRecursion (λ j. t ≤ j.amount) (take (length s.line) s.jobs)
  enough = All-take (λ (j : Job). t ≤ j.amount) (length s.line) s.jobs (all_least t s.jobs h.rises on)

  lower_rises : (i j : ℕ) → i ≤ j → j < length s.jobs → (i < length s.line) ⊎ (length s.line ≤ i) → (j < length s.line) ⊎ (length s.line ≤ j)
      → (get_or (lowered (length s.line) t s.jobs) i nothing).amount ≤ (get_or (lowered (length s.line) t s.jobs) j nothing).amount
  lower_rises i j le lt (inl a) (inl b) = omega (arith, lowered_below (length s.line) t s.jobs i a (omega arith), lowered_below (length s.line) t s.jobs j b lt, h.rises i j nothing le lt)
  lower_rises i j le lt (inl a) (inr b) = omega (arith, lowered_below (length s.line) t s.jobs i a (omega arith), lowered_above (length s.line) t s.jobs j b, h.rises i j nothing le lt)
  lower_rises i j le lt (inr a) (inl b) = absurd (omega arith)
  lower_rises i j le lt (inr a) (inr b) = omega (arith, lowered_above (length s.line) t s.jobs i a, lowered_above (length s.line) t s.jobs j b, h.rises i j nothing le lt)

  lower_bounded : (k : ℕ) → k < length s.jobs → (k < length s.line) ⊎ (length s.line ≤ k) → (get_or (lowered (length s.line) t s.jobs) k nothing).amount ≤ s.left - t
  lower_bounded k lt (inl a) = omega (arith, lowered_below (length s.line) t s.jobs k a lt, All-get_or (λ (j : Job). j.amount ≤ s.left) s.jobs k nothing lt h.bounded)
  lower_bounded k lt (inr a) = omega (arith, lowered_above (length s.line) t s.jobs k a, le_most s h k lt, off (omega arith))

  lower_room : length s.line < length s.jobs → sum_by (λ j. j.amount) (lowered (length s.line) t s.jobs) ≤ length s.line * (s.left - t)
  lower_room w =
      let e : length s.line * (s.left - t) + length s.line * t ≡ length s.line * s.left = sym (mul-add (length s.line) (s.left - t) t) ∙ ap (λ x. length s.line * x) (omega arith) in
      let m : many (λ _. true) (take (length s.line) s.jobs) ≡ length s.line = many_all (take (length s.line) s.jobs) ∙ length-take-le (length s.line) s.jobs h.staffed in
      let c : held (λ _. true) (lowered (length s.line) t s.jobs) + length s.line * t ≡ held (λ _. true) s.jobs =
      ap (λ x. held (λ _. true) (lowered (length s.line) t s.jobs) + x * t) (sym m) ∙ held_lowered (λ _. true) t (length s.line) s.jobs enough in
      omega (arith, h.room w)

  same_taken : (task : ℕ) → seated task (map (rule.lowered t) s.taken) ≡ seated task s.taken
  same_taken task = sum_by_map (λ (r : Running). cond (eqb task r.task) 1 0) (rule.lowered t) s.taken

  pub held_passed : Held (passed t s)
  held_passed = record {
    narrow = h.narrow;
    apart = λ c. omega (arith, sum_by_map (λ (r : Running). cond (eqb c r.core) 1 0) (rule.lowered t) s.taken, h.apart c);
    inside = h.inside;
    inside_taken = All-map (λ (r : Running). r.core < s.width) (rule.lowered t) s.taken h.inside_taken;
    tasks = λ task. omega (arith, many_lowered (eqb task) t (length s.line) s.jobs, same_taken task, h.tasks task);
    known = λ task v. omega (arith, many_lowered (eqb task) t (length s.line) s.jobs, same_taken task, h.known task v);
    numbered = omega (arith, many_lowered (eqb 0) t (length s.line) s.jobs, same_taken 0, h.numbered);
    urgent = All-map (λ (r : Running). r.amount ≡ s.left - t) (rule.lowered t) s.taken (All-weaker (λ (r : Running). r.amount ≡ s.left) (λ (r : Running). r.amount - t ≡ s.left - t) (λ r e. ap (λ x. x - t) e) s.taken h.urgent);
    rises = rises_from _ (λ i j le lt. lower_rises i j le (omega (arith, length_lowered (length s.line) t s.jobs)) (cases_lt i _) (cases_lt j _));
    bounded = All-from_get_or (λ (j : Job). j.amount ≤ s.left - t) _ nothing (λ k lt. lower_bounded k (omega (arith, length_lowered (length s.line) t s.jobs)) (cases_lt k _));
    staffed = rw (length_lowered (length s.line) t s.jobs) h.staffed;
    unended = λ w. omega (arith, lowered_above (length s.line) t s.jobs (length s.line) (omega arith), h.unended (omega (arith, length_lowered (length s.line) t s.jobs)));
    room = λ w. lower_room (omega (arith, length_lowered (length s.line) t s.jobs));
    full = λ w. omega (arith, length-map s.taken (rule.lowered t), h.full (omega (arith, length_lowered (length s.line) t s.jobs)));
  }

  -- each task on a core gets that time
  pub amount_passed : (task : ℕ) → amount (passed t s) task + (counted task (take (length s.line) s.jobs) + seated task s.taken) * t ≡ amount s task
  amount_passed task =
      let a = add-mul (counted task (take (length s.line) s.jobs)) (seated task s.taken) t in
      let b = held_lowered (eqb task) t (length s.line) s.jobs enough in
      let c = taken_lowered task t s.taken (All-weaker (λ (r : Running). r.amount ≡ s.left) (λ (r : Running). t ≤ r.amount) (λ r e. omega arith) s.taken h.urgent) in
      omega (arith, a, b, c)
