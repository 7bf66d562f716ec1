-- No task on a core has less left than the time of a passage.
use Rattle.std.proofs.Common.{◌≡◌, ℕ, ◌-◌, ◌<◌, ◌≤◌, leb, map, length, get_or, ap, ◌∙◌, arith}
use Rattle.std.specs.List.{AllByRecursion}
use Rattle.std.proofs.lemmas.List.{length-map, get_or_append_left, get_or-map}
use Rattle.std.proofs.ByRecursion.{All-from_get_or, All-weaker}
use Rattle.std.proofs.lemmas.Bool.{cond_both, leb-true, ltb-false}
use Rattle.izl_rule.specs.declared.Running.{Running}
use Rattle.izl_rule.specs.declared.Waiting.{Waiting}
use Rattle.izl_rule.specs.Rule.{State, nobody, nothing, F, G, waits, runs, take_over, refill, leaves, passed, passage}
use Rattle.izl_rule.specs.Invariant.{Held, merged, job}
use Rattle.izl_rule.proofs.Passages.{jobs_length, a_passage}

module _ (s : State) (h : Held (merged s)) where
  time_first : 0 < length s.running → (passage s).0 ≤ F s
  time_first some = cond_both (waits s) _ _ P
      (λ _. cond_both (leb (s.left - G s) (F s)) (s.left - G s, take_over (passed (s.left - G s) s)) (F s, refill (passed (F s) s)) P (λ e. leb-true _ _ e) (λ _. omega arith))
      (λ _. cond_both (runs s) (F s, leaves (passed (F s) s)) (s.left, passed s.left s) P (λ _. omega arith) (λ e. absurd (omega (arith, ltb-false 0 (length s.running) e))))
    where
      P : ℕ × State → Type 0
      P p = p.0 ≤ F s

  job_is : (k : ℕ) → k < length s.running → (get_or (merged s).jobs k nothing).amount ≡ (get_or s.running k nobody).amount
  job_is k l = ap (λ (j : Waiting). j.amount) (get_or_append_left (map job s.running) s.waiting nothing k (omega (arith, length-map s.running job)) ∙ get_or-map job s.running k nobody nothing l)

  pub running_enough : AllByRecursion (λ r. (passage s).0 ≤ r.amount) s.running
  running_enough = All-from_get_or (λ (r : Running). (passage s).0 ≤ r.amount) s.running nobody
      (λ k l. omega (arith, time_first (omega arith), job_is 0 (omega arith), job_is k l, h.rises 0 k nothing (omega arith) (omega (arith, jobs_length s))))

  pub time_left : (passage s).0 ≤ s.left
  time_left = omega (arith, (a_passage s h).left)

  pub taken_enough : AllByRecursion (λ r. (passage s).0 ≤ r.amount) s.taken
  taken_enough = All-weaker (λ (r : Running). r.amount ≡ s.left) (λ (r : Running). (passage s).0 ≤ r.amount) (λ r e. omega (arith, time_left)) s.taken h.urgent
