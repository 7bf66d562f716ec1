-- A slice is handed out as a local scheduler means it, and the next state is as sound.
use Rattle.std.proofs.Common.{◌≡◌, ℕ, ◌+◌, ◌*◌, ◌<◌, ◌≤◌, cond, ◌&&◌, eqb, ltb, leb, ◌⊎◌, List, [], ◌∷◌, ◌++◌, map, length, get_or, count_by, sym, refl, ap, ◌∙◌, inl, inr, mul-le-mul_right, add-mul, arith}
use Rattle.std.specs.List.{AllByRecursion}
use Rattle.std.proofs.lemmas.List.{length-append}
use Rattle.std.proofs.lemmas.List.Sums.{sum_by-append, count_by-le-length}
use Rattle.std.proofs.ByRecursion.{All-append, All-weaker, All-map}
use Rattle.std.proofs.lemmas.Bool.{cond_both, cases_lt, le-leb, lt-leb, and_from, and_right, cond-true, cond-false, ne_eqb, eqb-false}
use Rattle.local.specs.Masks.{seated_cores}
use Rattle.local.specs.Meaning.{amount_of, Handed}
use Rattle.izl_rule.specs.declared.Running.{Running}
use Rattle.izl_rule.specs.declared.Waiting.{Waiting}
use Rattle.izl_rule.specs.Rule.{State, passage, seats, choice, after, allowance, running_of}
use Rattle.izl_rule.specs.Rule as rule
use Rattle.izl_rule.specs.Invariant.{Held, Sound, merged, job, counted, seated}
use Rattle.izl_rule.specs.Meant.{meaning}
use Rattle.izl_rule.proofs.Lists.{sum_by_map, held_le}
use Rattle.izl_rule.proofs.Merging.{merged_amount}
use Rattle.izl_rule.proofs.Passages.{size, busy, Passage, a_passage, line_length, jobs_length}
use Rattle.izl_rule.proofs.Settling.{Readied, readied}
use Rattle.izl_rule.proofs.Seating.{at, length_row, row_idle, row_count, row_full, at_none, numbered_all}

module _ (s : State) (h : Held (merged s)) where
  abbrev places : List Running
  places = s.running ++ s.taken

  -- the task of each core of the queue is among the jobs
  jobs_count : (task : ℕ) → counted task (merged s).jobs ≡ seated task s.running + counted task s.waiting
  jobs_count task = sum_by-append (λ (w : Waiting). cond (eqb task w.task) 1 0) (map job s.running) s.waiting ∙ ap (λ n. n + counted task s.waiting) (sum_by_map (λ (w : Waiting). cond (eqb task w.task) 1 0) job s.running)

  cores_once : (c : ℕ) → at c places ≤ 1
  cores_once c = omega (arith, sum_by-append (λ (r : Running). cond (eqb c r.core) 1 0) s.running s.taken, sum_by_map (λ (x : ℕ). cond (eqb c x) 1 0) (λ (r : Running). r.core) s.running, h.apart c)

  pub below : (w : ℕ) (rs : List Running) → AllByRecursion (λ c. c < w) (map (λ (r : Running). r.core) rs) → AllByRecursion (λ r. r.core < w) rs
  below w [] a = tt
  below w (r ∷ rs) a = (a.0, below w rs a.1)

  places_in : AllByRecursion (λ r. r.core < s.width) places
  places_in = All-append (λ (r : Running). r.core < s.width) s.running s.taken (below s.width s.running h.inside) h.inside_taken

  places_low : AllByRecursion (λ r. r.core < 16) places
  places_low = All-weaker (λ (r : Running). r.core < s.width) (λ (r : Running). r.core < 16) (λ r l. omega (arith, h.narrow)) places places_in

  seats_above : (c : ℕ) → s.width ≤ c → get_or (seats s) c 0 ≡ 0
  seats_above c l = row_idle c places (at_none s.width c l places places_in)

  seats_count : (task : ℕ) → 1 ≤ task → count_by (eqb task) (seats s) ≡ busy s task
  seats_count task some = row_count task some places cores_once places_low ∙ sum_by-append (λ (r : Running). cond (eqb task r.task) 1 0) s.running s.taken

  busy_once : (task : ℕ) → busy s task ≤ 1
  busy_once task = omega (arith, jobs_count task, h.tasks task)

  each_seated : seated_cores (seats s) ≡ length s.running + length s.taken
  each_seated =
      row_full places cores_once places_low
      (numbered_all places (omega (arith, sum_by-append (λ (r : Running). cond (eqb 0 r.task) 1 0) s.running s.taken, jobs_count 0, h.numbered)))
      ∙ length-append s.running s.taken

  -- while a task waits no core is idle
  pub all_seated : 0 < length s.waiting → seated_cores (seats s) ≡ s.width
  all_seated wait = each_seated ∙ omega (arith, line_length s, h.full (omega (arith, line_length s, jobs_length s)))

  pub cores_few : length s.running + length s.taken ≤ 16
  cores_few = omega (arith, each_seated, count_by-le-length (ltb 0) (seats s), length_row places)

  -- no task has more than is left, and one above 32 nothing
  taken_le : (task : ℕ) → running_of task s.taken ≤ seated task s.taken * s.left
  taken_le task =
      let a = held_le (eqb task) s.left (map job s.taken) (All-map (λ (j : Waiting). j.amount ≤ s.left) job s.taken (All-weaker (λ (r : Running). r.amount ≡ s.left) (λ (r : Running). r.amount ≤ s.left) (λ r e. omega arith) s.taken h.urgent)) in
      let b = ap (λ n. n * s.left) (sum_by_map (λ (w : Waiting). cond (eqb task w.task) 1 0) job s.taken) in
      omega (arith, a, b, sum_by_map (λ (w : Waiting). cond (eqb task w.task) w.amount 0) job s.taken)

  amount_le : (task : ℕ) → rule.amount s task ≤ (counted task (merged s).jobs + seated task s.taken) * s.left
  amount_le task = omega (arith, merged_amount s task, held_le (eqb task) s.left (merged s).jobs h.bounded, taken_le task, add-mul (counted task (merged s).jobs) (seated task s.taken) s.left)

  pub amount_fits : (task : ℕ) → rule.amount s task ≤ s.left
  amount_fits task = omega (arith, amount_le task, mul-le-mul_right s.left (h.tasks task))

  amount_known : (task : ℕ) → 32 < task → rule.amount s task ≡ 0
  amount_known task l =
      let e : (counted task (merged s).jobs + seated task s.taken) * s.left ≡ 0 * s.left = ap (λ x. x * s.left) (h.known task l) in
      omega (arith, amount_le task)

  -- so the bounds of the task's number do not matter
  pub amount_of_lem : (task : ℕ) → 1 ≤ task → amount_of meaning s task ≡ rule.amount s task
  amount_of_lem task some = go (cases_lt 32 task)
    where
      go : (32 < task) ⊎ (task ≤ 32) → amount_of meaning s task ≡ rule.amount s task
      go (inl l) = cond-false (leb 1 task && leb task 32) (rule.amount s task) 0 (and_right (leb 1 task) (leb task 32) (lt-leb task 32 l)) ∙ sym (amount_known task l)
      go (inr l) = cond-true (leb 1 task && leb task 32) (rule.amount s task) 0 (and_from (leb 1 task) (leb task 32) (le-leb 1 task some) (le-leb task 32 l))

  pub amount_of_fits : (task : ℕ) → amount_of meaning s task ≤ s.left
  amount_of_fits task = cond_both (leb 1 task && leb task 32) (rule.amount s task) 0 (λ x. x ≤ s.left) (λ _. amount_fits task) (λ _. omega arith)

allowance_is : (s : State) → 0 < s.left → allowance s ≡ 1 + size s
allowance_is s l = cond-false (eqb s.left 0) 0 (1 + size s) (ne_eqb s.left 0 (λ e. omega arith))

pub allowance_some : (s : State) → 1 ≤ s.left → 1 ≤ allowance s
allowance_some s l = omega (arith, allowance_is s l)

pub allowance_le : (s : State) → allowance s ≤ 1 + size s
allowance_le s = cond_both (eqb s.left 0) 0 (1 + size s) (λ x. x ≤ 1 + size s) (λ _. omega arith) (λ _. omega arith)

module _ (s : State) (sound : Sound s) (some : 0 < s.left) where
  p : Passage s (passage s).0 (passage s).1
  p = a_passage s sound.held

  r : Readied (size (passage s).1) (passage s).1 (after s)
  r = readied (size (passage s).1) (passage s).1 p.held

  pub after_sound : Sound (after s)
  after_sound = record { held = r.held; prompt = r.prompt (omega arith) }

  change : (task : ℕ) → rule.amount (after s) task + busy s task * (passage s).0 ≡ rule.amount s task
  change task = omega (arith, r.amounts task, p.amounts task)

  -- a passage that leaves ticks is the end of a task or a take over
  fewer : allowance (after s) < 1 + size s
  fewer = cond_both (eqb (after s).left 0) 0 (1 + size (after s)) (λ x. x < 1 + size s) (λ e. omega arith) (λ e. less (eqb-false (after s).left 0 e) (cases_lt 0 (size s)))
    where
      less : ((after s).left ≡ 0 → ⊥) → (0 < size s) ⊎ (size s ≤ 0) → 1 + size (after s) < 1 + size s
      less e (inl l) = omega (arith, r.no_more, p.fewer l)
      less e (inr l) = absurd (e (omega (arith, r.left, p.left, (p.none (omega arith)).1)))

  pub handed : Handed meaning s (choice s) (after s)
  handed = record {
    chosen = refl;
    some = sound.prompt some;
    within = omega (arith, p.left);
    above_idle = seats_above s sound.held;
    once = λ task l. omega (arith, seats_count s sound.held task l, busy_once s sound.held task);
    enough = λ task l k. rw (amount_of_lem s sound.held task l) (omega (arith, change task, mul-le-mul_right (passage s).0 k, ap (λ n. n * (passage s).0) (seats_count s sound.held task l)));
    same_width = r.width ∙ p.width;
    ticks = omega (arith, r.left, p.left);
    amounts = λ task l. rw (amount_of_lem s sound.held task l, amount_of_lem (after s) r.held task l, seats_count s sound.held task l) (change task);
    fits = amount_of_fits (after s) r.held;
    fewer = omega (arith, fewer, allowance_is s some);
    some_left = allowance_some (after s);
    goes = refl;
  }
