-- The seats that are taken, as a sum over the tasks.
use Rattle.std.proofs.Common.{◌≡◌, ℕ, zero, suc, ◌+◌, ◌*◌, ◌<◌, ◌≤◌, Bool, cond, not, eqb, ◌⊎◌, List, [], ◌∷◌, length, get_or, take, sum_by, count_by, sym, refl, ap, ◌∙◌, add-one, arith}
use mathlib.Core.Logic.◌⊎◌.{inl, inr}
use native.Mathlib.Nat as law
use Rattle.std.proofs.lemmas.List.Sums.{sum_by-cons, sum_by_more}
use Rattle.std.proofs.lemmas.Bool.{cases_lt, cases_eq, eq-eqb, ne_eqb}
use Rattle.chart.specs.Charts.{Row}
use Rattle.chart.specs.Sums.{upto}
use Rattle.chart.proofs.Ranges.{upto_same, upto_plus, upto_none}
use Rattle.chart.proofs.Tallies.{hit, hits_none, hits_one}
use Rattle.dispatch.proofs.Seats.{taken}

pub upto_mul : (g : ℕ → ℕ) (c n : ℕ) → upto (λ i. g i * c) n ≡ upto g n * c
upto_mul g c zero = sym (law.zero-mul c)
upto_mul g c (suc n) = omega (arith, upto_mul g c n, law.add-mul (upto g n) (g n) c)

pub sum_by_to : {X : Type 0} (f : X → ℕ) (xs : List X) (d : X) (n : ℕ) → n ≤ length xs → sum_by f (take n xs) ≡ upto (λ i. f (get_or xs i d)) n
sum_by_to f xs d zero l = refl
sum_by_to {X} f xs d (suc n) l =
    let a = sum_by_to f xs d n (omega (arith, l)) in
    let b = sum_by_more f xs n d l in
    let c = ap (λ (k : ℕ). sum_by f (take k xs)) (add-one n) in
    omega (arith, a, b, c)

-- no task above n is seated
abbrev pub Named : ℕ → Row → Type 0
Named n xs = (task : ℕ) → n < task → count_by (eqb task) xs ≡ 0

count_cons : (task x : ℕ) (xs : Row) → count_by (eqb task) (x ∷ xs) ≡ hit task x + count_by (eqb task) xs
count_cons task x xs = sum_by-cons (hit task) x xs

pub taken_to : (n : ℕ) (xs : Row) → Named n xs → taken xs ≡ upto (λ i. count_by (eqb (i + 1)) xs) n
taken_to n [] named = sym (upto_none n)
taken_to n (x ∷ xs) named =
    let ih = taken_to n xs (λ task l. let a = named task l in let b = count_cons task x xs in omega (arith, a, b)) in
    let a = sum_by-cons (λ (y : ℕ). cond (not (eqb y 0)) 1 0) x xs in
    let b = upto_same (λ i. count_by (eqb (i + 1)) (x ∷ xs)) (λ i. hit (i + 1) x + count_by (eqb (i + 1)) xs) n (λ i l. count_cons (i + 1) x xs) in
    let c = upto_plus (λ i. hit (i + 1) x) (λ i. count_by (eqb (i + 1)) xs) n in
    let d = first (cases_eq x 0) (cases_lt n x) in
    omega (arith, ih, a, b, c, d)
  where
    first : (x ≡ 0) ⊎ (x ≡ 0 → ⊥) → (n < x) ⊎ (x ≤ n) → ◌≡◌ {A = ℕ} (cond (not (eqb x 0)) 1 0) (upto (λ i. hit (i + 1) x) n)
    first (inl e) w = ap (λ (b : Bool). cond (not b) 1 0) (eq-eqb x 0 e) ∙ sym (hits_none x n (inl e))
    first (inr e) (inl l) =
        let a = named x l in
        let b = count_cons x x xs in
        let c : ◌≡◌ {A = ℕ} (cond (eqb x x) 1 0) 1 = ap (λ (b : Bool). cond b 1 0) (eq-eqb x x refl) in
        absurd (omega (arith, a, b, c))
    first (inr e) (inr l) =
        let some : 1 ≤ x = elim (cases_lt x 1) [ inl s ↦ absurd (e (omega (arith, s))) | inr s ↦ s ] in
        ap (λ (b : Bool). cond (not b) 1 0) (ne_eqb x 0 e) ∙ sym (hits_one x n some l)
