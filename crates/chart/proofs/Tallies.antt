-- One where a seat has a task, else 0, and its sum over the tasks.
use Rattle.std.proofs.Common.{◌≡◌, ℕ, zero, suc, ◌+◌, ◌<◌, ◌≤◌, cond, eqb, ◌⊎◌, List, [], ◌∷◌, refl, inl, inr, ⊎_elim, arith}
use Rattle.std.specs.List.{AllByRecursion}
use Rattle.std.proofs.lemmas.Bool.{cases_lt, eq-eqb, ne_eqb, cond-true, cond-false}
use Rattle.chart.specs.Sums.{upto}

abbrev pub hit : ℕ → ℕ → ℕ
hit task x = cond (eqb task x) 1 0

pub hit_yes : (task x : ℕ) → task ≡ x → hit task x ≡ 1
hit_yes task x e = cond-true (eqb task x) 1 0 (eq-eqb task x e)

pub hit_no : (task x : ℕ) → (task ≡ x → ⊥) → hit task x ≡ 0
hit_no task x e = cond-false (eqb task x) 1 0 (ne_eqb task x e)

-- a seat x among the tasks 1 to n
pub hits_none : (x n : ℕ) → (x ≡ 0) ⊎ (n < x) → upto (λ i. hit (i + 1) x) n ≡ 0
hits_none x zero w = refl
hits_none x (suc n) (inl e) = omega (arith, hits_none x n (inl e), hit_no (n + 1) x (λ q. omega (arith, q, e)))
hits_none x (suc n) (inr l) = omega (arith, hits_none x n (inr (omega arith)), hit_no (n + 1) x (λ q. omega (arith, q, l)))

pub hits_one : (x n : ℕ) → 1 ≤ x → x ≤ n → upto (λ i. hit (i + 1) x) n ≡ 1
hits_one x zero some l = absurd (omega arith)
hits_one x (suc n) some l = ⊎_elim
    (λ last. omega (arith, hits_none x n (inr last), hit_yes (n + 1) x (omega arith)))
    (λ before. omega (arith, hits_one x n some before, hit_no (n + 1) x (λ q. omega (arith, q, before))))
    (cases_lt n x)

-- a seat is at most one task
pub one_task : (x n : ℕ) → upto (λ i. hit (i + 1) x) n ≤ 1
one_task x n = ⊎_elim
    (λ none. omega (arith, hits_none x n (inl (omega arith))))
    (λ some. ⊎_elim (λ past. omega (arith, hits_none x n (inr past))) (λ l. omega (arith, hits_one x n some l)) (cases_lt n x))
    (cases_lt x 1)

pub all_of : {X : Type 0} (P : X → Type 0) → ((x : X) → P x) → (xs : List X) → AllByRecursion P xs
all_of P f [] = tt
all_of P f (x ∷ xs) = (f x, all_of P f xs)
