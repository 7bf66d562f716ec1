-- A turn keeps the invariant and the amounts, and leaves fewer jobs.
use Rattle.std.proofs.Common.{◌≡◌, ℕ, suc, ◌+◌, ◌-◌, ◌*◌, ◌<◌, ◌≤◌, Bool, true, cond, eqb, ◌⊎◌, List, [], ◌∷◌, ◌++◌, length, get_or, take, drop, sum_by, sym, refl, ap, ◌∙◌, inl, inr, add-mul, arith}
use Rattle.std.specs.List.{remove, AllByRecursion}
use Rattle.std.specs.List.Sorted.{IsNonDecreasingBy}
use Rattle.std.proofs.lemmas.List.{length-take-le, length_push, length-drop, get_or-take, get_or-drop}
use Rattle.std.proofs.lemmas.List.Sums.{sum_by_push}
use Rattle.std.proofs.lemmas.List.Edits.{length-remove, get_or-remove_below, get_or-remove_above}
use Rattle.std.proofs.lemmas.List.Sorted.{IsNonDecreasingBy-take, IsNonDecreasingBy-drop}
use Rattle.std.proofs.ByRecursion.{All-take, All-drop, All-get_or, All-push, All-append}
use Rattle.std.proofs.lemmas.Bool.{cond_both, eqb-true, eqb-false, cases_lt}
use Rattle.izl_rule.specs.declared.Running.{Running}
use Rattle.izl_rule.specs.Rule as rule
use Rattle.izl_rule.specs.Rule.{nothing, running_of, waiting_of}
use Rattle.izl_rule.specs.Invariant.{Merged, Held, counted, seated}
use Rattle.izl_rule.proofs.Steps.{Job, least, final, most, take_over, refill, leaves, amount}
use Rattle.izl_rule.proofs.Lists.{sum_by_last, sum_by_first, sum_by_rotated, all_rotated, length_rotated, held, many, held_rest, many_rest, held_removed, many_removed}
use Rattle.izl_rule.proofs.Passing.{some_core}

pub record Turned (s s' : Merged) : Type 0 where
  pub width : s'.width ≡ s.width
  pub left : s'.left ≡ s.left
  pub amounts : (task : ℕ) → amount s' task ≡ amount s task
  pub fewer : length s'.jobs < length s.jobs
  pub held : Held s'

abbrev leaver : Merged → Running
leaver s = rule.on (get_or s.line (length s.line - 1) 0) (final s)

abbrev others : Merged → List Job
others s = take (length s.jobs - 1) s.jobs

abbrev taking : Merged → List Job → Merged
taking s ks = record { width = s.width; left = s.left; jobs = ks; line = take (length s.line - 1) s.line; taken = s.taken ++ (leaver s ∷ []) }

module _ (s : Merged) (h : Held s) (w : length s.line < length s.jobs) (g : most s ≡ s.left) where
  -- whichever jobs stay
  record Stay (ks : List Job) : Type 0 where
    up : IsNonDecreasingBy (λ j. j.amount) ks
    low : AllByRecursion (λ j. j.amount ≤ s.left) ks
    fewer : length ks < length s.jobs
    staffed : length s.line ≤ length ks + 1
    unended : length s.line < length ks + 1 → 0 < (get_or ks (length s.line - 1) nothing).amount
    part : (p : ℕ → Bool) → many p ks ≤ many p (others s)
    whole : (p : ℕ → Bool) → held p ks ≡ held p (others s)

  line_length : length (take (length s.line - 1) s.line) ≡ length s.line - 1
  line_length = length-take-le (length s.line - 1) s.line (omega arith)

  stay_amount : (ks : List Job) → Stay ks → (task : ℕ) → amount (taking s ks) task ≡ amount s task
  stay_amount ks k task =
      omega (arith, k.whole (eqb task), sum_by_last (λ (j : Job). cond (eqb task j.task) j.amount 0) s.jobs nothing (omega arith), sum_by_push (λ (r : Running). cond (eqb task r.task) r.amount 0) s.taken (leaver s))

  stay_room : (ks : List Job) → Stay ks → sum_by (λ j. j.amount) ks ≤ (length s.line - 1) * s.left
  stay_room ks k =
      let e : held (λ _. true) (others s) + most s ≡ held (λ _. true) s.jobs = sum_by_last (λ (j : Job). j.amount) s.jobs nothing (omega arith) in
      let c : (length s.line - 1) * s.left + 1 * s.left ≡ length s.line * s.left = sym (add-mul (length s.line - 1) 1 s.left) ∙ ap (λ x. x * s.left) (omega (arith, some_core s h w)) in
      omega (arith, k.whole (λ _. true), h.room w)

  stay : (ks : List Job) → Stay ks → Turned s (taking s ks)
  stay ks k = record {
    width = refl;
    left = refl;
    amounts = stay_amount ks k;
    fewer = k.fewer;
    held = record {
      narrow = h.narrow;
      apart = λ c. omega (arith, sum_by_last (λ (x : ℕ). cond (eqb c x) 1 0) s.line 0 (some_core s h w), sum_by_push (λ (r : Running). cond (eqb c r.core) 1 0) s.taken (leaver s), h.apart c);
      inside = All-take (λ c. c < s.width) (length s.line - 1) s.line h.inside;
      inside_taken = All-push (λ (r : Running). r.core < s.width) s.taken (leaver s) h.inside_taken (All-get_or (λ c. c < s.width) s.line (length s.line - 1) 0 (omega (arith, some_core s h w)) h.inside);
      tasks = λ task. omega (arith, sum_by_last (λ (j : Job). cond (eqb task j.task) 1 0) s.jobs nothing (omega arith), sum_by_push (λ (r : Running). cond (eqb task r.task) 1 0) s.taken (leaver s), k.part (eqb task), h.tasks task);
      known = λ task v. omega (arith, sum_by_last (λ (j : Job). cond (eqb task j.task) 1 0) s.jobs nothing (omega arith), sum_by_push (λ (r : Running). cond (eqb task r.task) 1 0) s.taken (leaver s), k.part (eqb task), h.known task v);
      numbered = omega (arith, sum_by_last (λ (j : Job). cond (eqb 0 j.task) 1 0) s.jobs nothing (omega arith), sum_by_push (λ (r : Running). cond (eqb 0 r.task) 1 0) s.taken (leaver s), k.part (eqb 0), h.numbered);
      rises = k.up;
      urgent = All-push (λ (r : Running). r.amount ≡ s.left) s.taken (leaver s) h.urgent g;
      bounded = k.low;
      staffed = omega (arith, line_length, k.staffed);
      unended = λ v. rw line_length (k.unended (omega (arith, line_length)));
      room = λ v. rw line_length (stay_room ks k);
      full = λ v. omega (arith, line_length, length_push s.taken (leaver s), h.full w, some_core s h w);
    };
  }

  others_length : length (others s) ≡ length s.jobs - 1
  others_length = length-take-le (length s.jobs - 1) s.jobs (omega arith)

  others_rise : IsNonDecreasingBy (λ j. j.amount) (others s)
  others_rise = IsNonDecreasingBy-take (λ (j : Job). j.amount) (length s.jobs - 1) s.jobs h.rises

  others_low : AllByRecursion (λ j. j.amount ≤ s.left) (others s)
  others_low = All-take (λ (j : Job). j.amount ≤ s.left) (length s.jobs - 1) s.jobs h.bounded

  put_back_lem : ((get_or (others s) (length s.line - 1) nothing).amount ≡ 0 → ⊥) → Stay (others s)
  put_back_lem e = record {
    up = others_rise;
    low = others_low;
    fewer = omega (arith, others_length);
    staffed = omega (arith, others_length);
    unended = λ v. omega (arith, e);
    part = λ p. omega arith;
    whole = λ p. refl;
  }

  ended : (get_or (others s) (length s.line - 1) nothing).amount ≡ 0 → Stay (remove (others s) (length s.line - 1))
  ended e =
      let l : length s.line - 1 < length (others s) = omega (arith, others_length, some_core s h w) in
      let n = length-remove (others s) (length s.line - 1) l in
      record {
        up = λ i j d le lt. removed_rises i j d le (omega (arith, n)) l (cases_lt i (length s.line - 1)) (cases_lt j (length s.line - 1));
        low = All-append (λ (j : Job). j.amount ≤ s.left) (take (length s.line - 1) (others s)) (drop (suc (length s.line - 1)) (others s)) (All-take (λ (j : Job). j.amount ≤ s.left) (length s.line - 1) (others s) others_low) (All-drop (λ (j : Job). j.amount ≤ s.left) (suc (length s.line - 1)) (others s) others_low);
        fewer = omega (arith, others_length, n);
        staffed = omega (arith, others_length, n);
        unended = λ v. first_waiting_lem l (omega (arith, others_length, n, some_core s h w));
        part = λ p. many_removed p (others s) (length s.line - 1) l;
        whole = λ p. held_removed p (others s) (length s.line - 1) l e;
      }
    where
      removed_rises : (i j : ℕ) (d : Job) → i ≤ j → j + 1 < length (others s) → (l : length s.line - 1 < length (others s)) → (i < length s.line - 1) ⊎ (length s.line - 1 ≤ i) → (j < length s.line - 1) ⊎ (length s.line - 1 ≤ j)
          → (get_or (remove (others s) (length s.line - 1)) i d).amount ≤ (get_or (remove (others s) (length s.line - 1)) j d).amount
      removed_rises i j d le lt l (inl a) (inl b) = rw (get_or-remove_below (others s) (length s.line - 1) d i a l, get_or-remove_below (others s) (length s.line - 1) d j b l) (others_rise i j d le (omega arith))
      removed_rises i j d le lt l (inl a) (inr b) = rw (get_or-remove_below (others s) (length s.line - 1) d i a l, get_or-remove_above (others s) (length s.line - 1) d j b l) (others_rise i (j + 1) d (omega arith) lt)
      removed_rises i j d le lt l (inr a) (inl b) = absurd (omega arith)
      removed_rises i j d le lt l (inr a) (inr b) = rw (get_or-remove_above (others s) (length s.line - 1) d i a l, get_or-remove_above (others s) (length s.line - 1) d j b l) (others_rise (i + 1) (j + 1) d (omega arith) lt)

      first_waiting_lem : length s.line - 1 < length (others s) → length s.line < length s.jobs - 1 → 0 < (get_or (remove (others s) (length s.line - 1)) (length s.line - 1) nothing).amount
      first_waiting_lem l v =
          let c : length s.line - 1 + 1 ≡ length s.line = omega (arith, some_core s h w) in
          rw (get_or-remove_above (others s) (length s.line - 1) nothing (length s.line - 1) (omega arith) l, c, get_or-take (length s.jobs - 1) s.jobs (length s.line) nothing v) (h.unended w)

  pub take_over_turned : Turned s (take_over s)
  take_over_turned = cond_both (eqb (get_or (others s) (length s.line - 1) nothing).amount 0) (remove (others s) (length s.line - 1)) (others s) (λ ks. Turned s (taking s ks))
      (λ e. stay _ (ended (eqb-true _ _ e))) (λ e. stay _ (put_back_lem (eqb-false _ _ e)))

module _ (s : Merged) (h : Held s) (some : 0 < length s.jobs) (e : least s ≡ 0) where
  rest_length : length (drop 1 s.jobs) ≡ length s.jobs - 1
  rest_length = length-drop 1 s.jobs

  rest_amount : (task : ℕ) → waiting_of task (drop 1 s.jobs) + running_of task s.taken ≡ amount s task
  rest_amount task = ap (λ x. x + running_of task s.taken) (held_rest (eqb task) s.jobs e)

  rest_tasks : (task : ℕ) → counted task (drop 1 s.jobs) + seated task s.taken ≤ 1
  rest_tasks task = omega (arith, many_rest (eqb task) s.jobs, h.tasks task)

  pub refill_turned : length s.line < length s.jobs → Turned s (refill s)
  refill_turned w = record {
    width = refl;
    left = refl;
    amounts = rest_amount;
    fewer = omega (arith, rest_length);
    held = record {
      narrow = h.narrow;
      apart = λ c. omega (arith, sum_by_rotated (λ (x : ℕ). cond (eqb c x) 1 0) s.line, h.apart c);
      inside = all_rotated (λ c. c < s.width) s.line h.inside;
      inside_taken = h.inside_taken;
      tasks = rest_tasks;
      known = λ task v. omega (arith, many_rest (eqb task) s.jobs, h.known task v);
      numbered = omega (arith, many_rest (eqb 0) s.jobs, h.numbered);
      urgent = h.urgent;
      rises = IsNonDecreasingBy-drop (λ (j : Job). j.amount) 1 s.jobs h.rises;
      bounded = All-drop (λ (j : Job). j.amount ≤ s.left) 1 s.jobs h.bounded;
      staffed = omega (arith, rest_length, length_rotated s.line);
      unended = λ v. rw (length_rotated s.line, get_or-drop 1 s.jobs (length s.line) nothing) (omega (arith, h.unended w, h.rises (length s.line) (1 + length s.line) nothing (omega arith) (omega (arith, rest_length, length_rotated s.line))));
      room = λ v. rw length_rotated (omega (arith, held_rest (λ _. true) s.jobs e, h.room w));
      full = λ v. omega (arith, length_rotated s.line, h.full w);
    };
  }

  pub leaves_turned : length s.jobs ≤ length s.line → Turned s (leaves s)
  leaves_turned w = record {
    width = refl;
    left = refl;
    amounts = rest_amount;
    fewer = omega (arith, rest_length);
    held = record {
      narrow = h.narrow;
      apart = λ c. omega (arith, sum_by_first (λ (x : ℕ). cond (eqb c x) 1 0) s.line 0 (omega arith), h.apart c);
      inside = All-drop (λ c. c < s.width) 1 s.line h.inside;
      inside_taken = h.inside_taken;
      tasks = rest_tasks;
      known = λ task v. omega (arith, many_rest (eqb task) s.jobs, h.known task v);
      numbered = omega (arith, many_rest (eqb 0) s.jobs, h.numbered);
      urgent = h.urgent;
      rises = IsNonDecreasingBy-drop (λ (j : Job). j.amount) 1 s.jobs h.rises;
      bounded = All-drop (λ (j : Job). j.amount ≤ s.left) 1 s.jobs h.bounded;
      staffed = omega (arith, rest_length, length-drop 1 s.line, h.staffed);
      unended = λ v. absurd (omega (arith, rest_length, length-drop 1 s.line));
      room = λ v. absurd (omega (arith, rest_length, length-drop 1 s.line));
      full = λ v. absurd (omega (arith, rest_length, length-drop 1 s.line));
    };
  }
