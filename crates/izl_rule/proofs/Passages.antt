-- A passage keeps the invariant, gives each task on a core its time, and leaves fewer tasks in the queues.
use Rattle.std.proofs.Common.{◌≡◌, ℕ, ◌+◌, ◌-◌, ◌*◌, ◌<◌, ◌≤◌, cond, eqb, leb, map, length, get_or, take, sym, refl, ap, ◌∙◌, subst, arith}
use Rattle.std.proofs.lemmas.List.{length-map, length-append, take_at, get_or_append_left, get_or-map}
use Rattle.std.proofs.ByRecursion.{All-get_or}
use Rattle.std.proofs.lemmas.Bool.{cond_both, ltb-true, ltb-false, leb-true, leb-false}
use Rattle.izl_rule.specs.declared.Running.{Running}
use Rattle.izl_rule.specs.declared.Waiting.{Waiting}
use Rattle.izl_rule.specs.Rule.{State, nobody, nothing, F, G, waits, runs, passage}
use Rattle.izl_rule.specs.Rule as rule
use Rattle.izl_rule.specs.Invariant.{Merged, Held, merged, job, counted, seated}
use Rattle.izl_rule.proofs.Steps.{Job, least, most, lowered, passed, take_over, refill, leaves, amount}
use Rattle.izl_rule.proofs.Lists.{sum_by_map, length_lowered, lowered_below, lowered_above}
use Rattle.izl_rule.proofs.Passing.{some_core, held_passed, amount_passed}
use Rattle.izl_rule.proofs.Turns.{Turned, take_over_turned, refill_turned, leaves_turned}
use Rattle.izl_rule.proofs.Merging.{merged_passed, merged_take_over, merged_refill, merged_leaves, merged_amount, last_job}

-- the tasks in the queues, and how often a task is on a core
abbrev pub size : State → ℕ
size s = length s.running + length s.waiting

abbrev pub busy : State → ℕ → ℕ
busy s task = seated task s.running + seated task s.taken

pub record Passage (s : State) (t : ℕ) (s' : State) : Type 0 where
  pub width : s'.width ≡ s.width
  pub left : s'.left + t ≡ s.left
  pub amounts : (task : ℕ) → rule.amount s' task + busy s task * t ≡ rule.amount s task
  pub held : Held (merged s')
  pub fewer : 0 < size s → size s' < size s
  pub none : size s ≡ 0 → (size s' ≡ 0) × (t ≡ s.left)

pub line_length : (s : State) → length (merged s).line ≡ length s.running
line_length s = length-map s.running (λ (r : Running). r.core)

pub jobs_length : (s : State) → length (merged s).jobs ≡ size s
jobs_length s = length-append (map job s.running) s.waiting ∙ ap (λ n. n + length s.waiting) (length-map s.running job)

on_cores : (s : State) (task : ℕ) → counted task (take (length (merged s).line) (merged s).jobs) ≡ seated task s.running
on_cores s task =
    ap (counted task) (take_at (map job s.running) s.waiting (length (merged s).line) (length-map s.running job ∙ sym (line_length s)))
    ∙ sum_by_map (λ (w : Waiting). cond (eqb task w.task) 1 0) job s.running

first_is : (s : State) → 0 < length s.running → least (merged s) ≡ F s
first_is s some =
    ap (λ (j : Job). j.amount) (get_or_append_left (map job s.running) s.waiting nothing 0 (omega (arith, length-map s.running job)) ∙ get_or-map job s.running 0 nobody nothing some)

module _ (s : State) (h : Held (merged s)) where
  -- time that no job on the line exceeds, and that leaves room for all that wait
  module _ (t : ℕ) (on : 0 < size s → t ≤ least (merged s)) (off : length (merged s).line < length (merged s).jobs → t + most (merged s) ≤ s.left) (within : t ≤ s.left) where
    on' : 0 < length (merged s).jobs → t ≤ least (merged s)
    on' l = on (omega (arith, jobs_length s))

    passed_held : Held (passed t (merged s))
    passed_held = held_passed (merged s) h t on' off within

    passed_amounts : (m : ℕ → ℕ) → ((task : ℕ) → m task ≡ amount (passed t (merged s)) task) → (task : ℕ) → m task + busy s task * t ≡ rule.amount s task
    passed_amounts m e task =
        let b : (counted task (take (length (merged s).line) (merged s).jobs) + seated task s.taken) * t ≡ busy s task * t = ap (λ k. (k + seated task s.taken) * t) (on_cores s task) in
        omega (arith, e task, b, amount_passed (merged s) h t on' off within task, merged_amount s task)

    turned : (s' : State) (m : Merged) → merged s' ≡ m → Turned (passed t (merged s)) m → Passage s t s'
    turned s' m e r =
        let less : size s' < size s = omega (arith, jobs_length s, jobs_length s', ap (λ (x : Merged). length x.jobs) e, r.fewer, length_lowered (length (merged s).line) t (merged s).jobs) in
        record {
          width = ap (λ (x : Merged). x.width) e ∙ r.width;
          left = omega (arith, ap (λ (x : Merged). x.left) e, r.left);
          amounts = passed_amounts (rule.amount s') (λ task. sym (merged_amount s' task) ∙ ap (λ (x : Merged). amount x task) e ∙ r.amounts task);
          held = subst Held (sym e) r.held;
          fewer = λ _. less;
          none = λ z. absurd (omega arith);
        }

    final_is : length (merged s).line < length (merged s).jobs → most (passed t (merged s)) ≡ most (merged s)
    final_is w =
        let n = length_lowered (length (merged s).line) t (merged s).jobs in
        let k : length (lowered (length (merged s).line) t (merged s).jobs) - 1 ≡ length (merged s).jobs - 1 = omega (arith, n) in
        ap (λ (x : ℕ). (get_or (lowered (length (merged s).line) t (merged s).jobs) x nothing).amount) k ∙ lowered_above (length (merged s).line) t (merged s).jobs (length (merged s).jobs - 1) (omega arith)

    taken_over : 0 < length s.waiting → 0 < length s.running → t + most (merged s) ≡ s.left → Passage s t (rule.take_over (rule.passed t s))
    taken_over wait some e =
        let n = length_lowered (length (merged s).line) t (merged s).jobs in
        turned (rule.take_over (rule.passed t s)) (take_over (passed t (merged s)))
        (merged_take_over (rule.passed t s) (omega (arith, length-map s.running (rule.lowered t))) wait ∙ ap take_over (merged_passed t s))
        (take_over_turned (passed t (merged s)) passed_held (omega (arith, n, line_length s, jobs_length s)) (omega (arith, final_is (omega (arith, line_length s, jobs_length s)))))

    ended : 0 < length s.running → t ≡ least (merged s) → least (passed t (merged s)) ≡ 0
    ended some e = omega (arith, lowered_below (length (merged s).line) t (merged s).jobs 0 (omega (arith, line_length s)) (omega (arith, jobs_length s)))

    some_job : 0 < length s.running → 0 < length (passed t (merged s)).jobs
    some_job some = omega (arith, jobs_length s, length_lowered (length (merged s).line) t (merged s).jobs)

    refilled : 0 < length s.waiting → 0 < length s.running → t ≡ least (merged s) → Passage s t (rule.refill (rule.passed t s))
    refilled wait some e =
        let n = length_lowered (length (merged s).line) t (merged s).jobs in
        turned (rule.refill (rule.passed t s)) (refill (passed t (merged s)))
        (merged_refill (rule.passed t s) (omega (arith, length-map s.running (rule.lowered t))) wait ∙ ap refill (merged_passed t s))
        (refill_turned (passed t (merged s)) passed_held (some_job some) (ended some e) (omega (arith, n, line_length s, jobs_length s)))

    left_alone : length s.waiting ≤ 0 → 0 < length s.running → t ≡ least (merged s) → Passage s t (rule.leaves (rule.passed t s))
    left_alone wait some e =
        let n = length_lowered (length (merged s).line) t (merged s).jobs in
        turned (rule.leaves (rule.passed t s)) (leaves (passed t (merged s)))
        (merged_leaves (rule.passed t s) (omega (arith, length-map s.running (rule.lowered t))) ∙ ap leaves (merged_passed t s))
        (leaves_turned (passed t (merged s)) passed_held (some_job some) (ended some e) (omega (arith, n, line_length s, jobs_length s)))

    rested : size s ≡ 0 → t ≡ s.left → Passage s t (rule.passed t s)
    rested z e = record {
      width = refl;
      left = omega arith;
      amounts = passed_amounts (rule.amount (rule.passed t s)) (λ task. sym (merged_amount (rule.passed t s) task) ∙ ap (λ (x : Merged). amount x task) (merged_passed t s));
      held = subst Held (sym (merged_passed t s)) passed_held;
      fewer = λ l. absurd (omega arith);
      none = λ _. (omega (arith, length-map s.running (rule.lowered t)), e);
    }

  -- every job is within what is left
  job_bound : (k : ℕ) → k < length (merged s).jobs → (get_or (merged s).jobs k nothing).amount ≤ s.left
  job_bound k l = All-get_or (λ (j : Job). j.amount ≤ s.left) (merged s).jobs k nothing l h.bounded

  waiting_runs : 0 < length s.waiting → 0 < length s.running
  waiting_runs wait = omega (arith, some_core (merged s) h (omega (arith, line_length s, jobs_length s)), line_length s)

  pub a_passage : Passage s (passage s).0 (passage s).1
  a_passage = cond_both (waits s) _ _ P (λ w. waiting (ltb-true 0 (length s.waiting) w)) (λ w. quiet (ltb-false 0 (length s.waiting) w))
    where
      P : ℕ × State → Type 0
      P p = Passage s p.0 p.1

      waiting : 0 < length s.waiting → P (cond (leb (s.left - G s) (F s)) (s.left - G s, rule.take_over (rule.passed (s.left - G s) s)) (F s, rule.refill (rule.passed (F s) s)))
      waiting wait =
          let some = waiting_runs wait in
          let g : most (merged s) ≡ G s = ap (λ (j : Job). j.amount) (last_job s some wait) in
          let b = job_bound (length (merged s).jobs - 1) (omega (arith, jobs_length s)) in
          cond_both (leb (s.left - G s) (F s)) _ _ P
          (λ e. taken_over (s.left - G s) (λ _. omega (arith, first_is s some, leb-true _ _ e)) (λ _. omega arith) (omega arith) wait some (omega arith))
          (λ e. refilled (F s) (λ _. omega (arith, first_is s some)) (λ _. omega (arith, leb-false _ _ e)) (omega (arith, leb-false _ _ e)) wait some (sym (first_is s some)))

      quiet : length s.waiting ≤ 0 → P (cond (runs s) (F s, rule.leaves (rule.passed (F s) s)) (s.left, rule.passed s.left s))
      quiet wait = cond_both (runs s) _ _ P
          (λ e. let some = ltb-true 0 (length s.running) e in left_alone (F s) (λ _. omega (arith, first_is s some)) (λ w. absurd (omega (arith, line_length s, jobs_length s))) (omega (arith, first_is s some, job_bound 0 (omega (arith, jobs_length s)))) wait some (sym (first_is s some)))
          (λ e. let some = ltb-false 0 (length s.running) e in rested s.left (λ l. absurd (omega arith)) (λ w. absurd (omega (arith, line_length s, jobs_length s))) (omega arith) (omega arith) refl)
