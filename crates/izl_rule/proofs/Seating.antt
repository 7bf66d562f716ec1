-- The row of seats that cores and their tasks make.
use Rattle.std.proofs.Common.{◌≡◌, ℕ, zero, suc, ◌+◌, ◌<◌, ◌≤◌, Bool, true, false, cond, eqb, ltb, List, [], ◌∷◌, length, get_or, count_by, refl, ap, ◌∙◌, arith}
use Rattle.std.specs.List.{AllByRecursion}
use Rattle.std.proofs.lemmas.List.{length-set, get_or-set_other}
use Rattle.std.proofs.lemmas.List.Sums.{sum_by-cons, sum_by-set}
use Rattle.std.proofs.lemmas.Bool.{eq-eqb, ne_eqb, lt-ltb}
use Rattle.chart.proofs.Repeated.{get_or_replicate_same}
use Rattle.izl_rule.specs.declared.Running.{Running}
use Rattle.izl_rule.specs.Rule.{row}
use Rattle.izl_rule.specs.Invariant.{seated}
use Rattle.izl_rule.proofs.Lists.{bit}

-- how many have the core
abbrev pub at : ℕ → List Running → ℕ
at c = count_by (λ r. eqb c r.core)

pub length_row : (rs : List Running) → length (row rs) ≡ 16
length_row [] = refl
length_row (r ∷ rs) = length-set (row rs) r.core r.task ∙ length_row rs

pub row_idle : (c : ℕ) (rs : List Running) → at c rs ≡ 0 → get_or (row rs) c 0 ≡ 0
row_idle c [] h = get_or_replicate_same 16 c 0
row_idle c (r ∷ rs) h =
    let e = sum_by-cons (λ (r : Running). cond (eqb c r.core) 1 0) r rs in
    get_or-set_other (row rs) r.core c r.task 0 (λ same. other (eqb c r.core) (eq-eqb c r.core same) (omega (arith, e)))
    ∙ row_idle c rs (omega (arith, e))
  where
    other : (b : Bool) → b ≡ true → bit b ≡ 0 → ⊥
    other true e z = omega arith
    other false e z = let w : ◌≡◌ {A = ℕ} 0 1 = cc in omega arith

-- one core more, at a place that was idle
module _ (p : ℕ → Bool) (idle : bit (p 0) ≡ 0) (r : Running) (rs : List Running) (once : (c : ℕ) → at c (r ∷ rs) ≤ 1) (within : r.core < 16) where
  rest_once : (c : ℕ) → at c rs ≤ 1
  rest_once c = omega (arith, sum_by-cons (λ (q : Running). cond (eqb c q.core) 1 0) r rs, once c)

  row_more : count_by p (row (r ∷ rs)) ≡ bit (p r.task) + count_by p (row rs)
  row_more =
      let o : bit (eqb r.core r.core) ≡ 1 = rw (eq-eqb r.core r.core refl) in
      let z = row_idle r.core rs (omega (arith, sum_by-cons (λ (q : Running). cond (eqb r.core q.core) 1 0) r rs, once r.core)) in
      let n : bit (p (get_or (row rs) r.core 0)) ≡ 0 = ap (λ x. bit (p x)) z ∙ idle in
      omega (arith, sum_by-set (λ (x : ℕ). cond (p x) 1 0) (row rs) r.core r.task 0 (omega (arith, length_row rs, within)))

-- each task is in the row as often as on a core
pub row_count : (task : ℕ) → 1 ≤ task → (rs : List Running) → ((c : ℕ) → at c rs ≤ 1) → AllByRecursion (λ r. r.core < 16) rs → count_by (eqb task) (row rs) ≡ seated task rs
row_count task some [] h k = rw (ne_eqb task 0 (λ e. omega arith))
row_count task some (r ∷ rs) h k =
    let idle : bit (eqb task 0) ≡ 0 = rw (ne_eqb task 0 (λ e. omega arith)) in
    omega (arith, sum_by-cons (λ (q : Running). cond (eqb task q.task) 1 0) r rs, row_count task some rs (rest_once (eqb task) idle r rs h k.0) k.1, row_more (eqb task) idle r rs h k.0)

-- each core has its seat
pub row_full : (rs : List Running) → ((c : ℕ) → at c rs ≤ 1) → AllByRecursion (λ r. r.core < 16) rs → AllByRecursion (λ r. 0 < r.task) rs → count_by (ltb 0) (row rs) ≡ length rs
row_full [] h k l = refl
row_full (r ∷ rs) h k l =
    let one : bit (ltb 0 r.task) ≡ 1 = rw (lt-ltb 0 r.task l.0) in
    omega (arith, row_full rs (rest_once (ltb 0) refl r rs h k.0) k.1 l.1, row_more (ltb 0) refl r rs h k.0)

-- no core is at or above the width
pub at_none : (w c : ℕ) → w ≤ c → (rs : List Running) → AllByRecursion (λ r. r.core < w) rs → at c rs ≡ 0
at_none w c l [] h = refl
at_none w c l (r ∷ rs) h =
    let z : bit (eqb c r.core) ≡ 0 = rw (ne_eqb c r.core (λ e. omega (arith, h.0))) in
    omega (arith, sum_by-cons (λ (q : Running). cond (eqb c q.core) 1 0) r rs, at_none w c l rs h.1)

-- a list without task 0
pub numbered_all : (rs : List Running) → seated 0 rs ≡ 0 → AllByRecursion (λ r. 0 < r.task) rs
numbered_all [] z = tt
numbered_all (r ∷ rs) z =
    let e = sum_by-cons (λ (q : Running). cond (eqb 0 q.task) 1 0) r rs in
    (above r.task (omega (arith, e)), numbered_all rs (omega (arith, e)))
  where
    above : (n : ℕ) → bit (eqb 0 n) ≡ 0 → 0 < n
    above zero b = absurd (let o : bit (eqb 0 0) ≡ 1 = refl in omega arith)
    above (suc n) b = omega arith
