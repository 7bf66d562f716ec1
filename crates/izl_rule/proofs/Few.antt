-- A sound state has at most 32 tasks in its queues and on its cores.
use Rattle.std.proofs.Common.{◌≡◌, ℕ, ◌+◌, ◌<◌, ◌≤◌, Bool, true, false, eqb, ◌⊎◌, List, [], ◌∷◌, ◌++◌, map, length, count_by, refl, inl, inr, arith}
use Rattle.std.specs.List.{AllByRecursion, IsDistinct, list_any}
use Rattle.std.proofs.lemmas.Bool.{cases_lt, eq-eqb, ne_eqb}
use Rattle.std.proofs.lemmas.List.{length-append, length-map}
use Rattle.std.proofs.lemmas.List.Elements.{All-from_recursion}
use Rattle.std.proofs.lemmas.List.Folds.{list_any_none}
use Rattle.std.proofs.lemmas.List.Sums.{sum_by-cons, sum_by-append}
use Rattle.std.proofs.lemmas.Map.Steps.{length-le_from_distinct_below}
use Rattle.izl_rule.specs.declared.Running.{Running}
use Rattle.izl_rule.specs.declared.Waiting.{Waiting}
use Rattle.izl_rule.specs.Rule.{State}
use Rattle.izl_rule.specs.Invariant.{Held, merged, counted, seated}
use Rattle.izl_rule.proofs.Lists.{bit, sum_by_map}
use Rattle.izl_rule.proofs.Passages.{jobs_length}

abbrev times : ℕ → List ℕ → ℕ
times n = count_by (eqb n)

one_more : (n m : ℕ) (ms : List ℕ) → times n (m ∷ ms) ≡ bit (eqb n m) + times n ms
one_more n m ms = sum_by-cons (λ (x : ℕ). bit (eqb n x)) m ms

apart : (n : ℕ) (ms : List ℕ) → times n ms ≡ 0 → AllByRecursion (λ m. eqb n m ≡ false) ms
apart n [] z = tt
apart n (m ∷ ms) z = (no (eqb n m) (omega (arith, one_more n m ms, z)), apart n ms (omega (arith, one_more n m ms, z)))
  where
    no : (b : Bool) → bit b ≡ 0 → b ≡ false
    no true o = absurd (omega (arith, o))
    no false o = refl

distinct : (ms : List ℕ) → ((n : ℕ) → times n ms ≤ 1) → IsDistinct eqb ms
unfolding IsDistinct
distinct [] h = tt
distinct (m ∷ ms) h =
    let o : bit (eqb m m) ≡ 1 = rw (eq-eqb m m refl) in
    (apart m ms (omega (arith, one_more m m ms, h m, o)), distinct ms (λ n. omega (arith, one_more n m ms, h n)))

-- numbers from 1 to n, none twice, are at most n
few : (n : ℕ) (ms : List ℕ) → ((k : ℕ) → times k ms ≤ 1) → ((k : ℕ) → n < k → times k ms ≡ 0) → times 0 ms ≡ 0 → length ms ≤ n
unfolding IsDistinct
few n ms once past none = omega (arith, length-le_from_distinct_below (0 ∷ ms) (n + 1) (apart 0 ms none, distinct ms once) (λ k h. within k h (cases_lt n k)))
  where
    within : (k : ℕ) → list_any (eqb k) (0 ∷ ms) ≡ true → (n < k) ⊎ (k ≤ n) → k < n + 1
    within k h (inl l) = let f = list_any_none (eqb k) (0 ∷ ms) (All-from_recursion (λ m. eqb k m ≡ false) (0 ∷ ms) (ne_eqb k 0 (λ e. omega (arith, e, l)), apart k ms (past k l))) in cc
    within k h (inr l) = omega (arith, l)

module _ (s : State) (h : Held (merged s)) where
  abbrev numbers : List ℕ
  numbers = map (λ (w : Waiting). w.task) (merged s).jobs ++ map (λ (r : Running). r.task) s.taken

  numbers_times : (k : ℕ) → times k numbers ≡ counted k (merged s).jobs + seated k s.taken
  numbers_times k =
      let f = λ (x : ℕ). bit (eqb k x) in
      omega (arith, sum_by-append f (map (λ (w : Waiting). w.task) (merged s).jobs) (map (λ (r : Running). r.task) s.taken), sum_by_map f (λ (w : Waiting). w.task) (merged s).jobs, sum_by_map f (λ (r : Running). r.task) s.taken)

  pub tasks_few : length s.running + length s.waiting + length s.taken ≤ 32
  tasks_few =
      let l = few 32 numbers (λ k. omega (arith, numbers_times k, h.tasks k)) (λ k l. omega (arith, numbers_times k, h.known k l)) (omega (arith, numbers_times 0, h.numbered)) in
      omega (arith, l, length-append (map (λ (w : Waiting). w.task) (merged s).jobs) (map (λ (r : Running). r.task) s.taken), length-map (merged s).jobs (λ (w : Waiting). w.task), length-map s.taken (λ (r : Running). r.task), jobs_length s)
