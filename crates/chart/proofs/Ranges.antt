-- Sums of a function over the numbers below n.
use Rattle.std.proofs.Common.{◌≡◌, ℕ, zero, suc, ◌+◌, ◌-◌, ◌*◌, ◌<◌, ◌≤◌, min, cond, ◌&&◌, ltb, leb, List, [], ◌∷◌, map, length, get_or, take, sum_by, sum, sym, refl, ap, ◌∙◌, ⊎_elim, add-one, arith}
use native.Mathlib.Nat as law
use Rattle.std.specs.List.{range_with_len}
use Rattle.std.proofs.lemmas.List.{get_or_past, take_all}
use Rattle.std.proofs.lemmas.List.Sums.{sum_by-cons, sum_by_more, sum-map}
use Rattle.std.proofs.lemmas.List.FromFn.{sum_by-map-range_with_len_more}
use Rattle.std.proofs.lemmas.Bool.{cases_lt}
use Rattle.std.proofs.lemmas.Bool.Decides.{nat_tests}
use Rattle.chart.specs.Sums.{upto}

pub upto_same : (f g : ℕ → ℕ) (n : ℕ) → ((i : ℕ) → i < n → f i ≡ g i) → upto f n ≡ upto g n
upto_same f g zero e = refl
upto_same f g (suc n) e = omega (arith, upto_same f g n (λ i l. e i (omega arith)), e n (omega arith))

pub upto_none : (n : ℕ) → upto (λ _. 0) n ≡ 0
upto_none zero = refl
upto_none (suc n) = omega (arith, upto_none n)

pub upto_plus : (f g : ℕ → ℕ) (n : ℕ) → upto (λ i. f i + g i) n ≡ upto f n + upto g n
upto_plus f g zero = refl
upto_plus f g (suc n) = omega (arith, upto_plus f g n)

-- either order of two sums
pub upto_swap : (f : ℕ → ℕ → ℕ) (m n : ℕ) → upto (λ i. upto (f i) m) n ≡ upto (λ j. upto (λ i. f i j) n) m
upto_swap f m zero = sym (upto_none m)
upto_swap f m (suc n) = omega (arith, upto_swap f m n, upto_plus (λ j. upto (λ i. f i j) n) (f n) m)

pub upto_add : (f : ℕ → ℕ) (a b : ℕ) → upto f (a + b) ≡ upto f a + upto (λ i. f (a + i)) b
upto_add f a zero = ap (upto f) (law.add-zero a) ∙ omega arith
upto_add f a (suc b) = ap (upto f) (law.add-suc a b) ∙ omega (arith, upto_add f a b)

pub upto_rises : (f : ℕ → ℕ) (a b : ℕ) → a ≤ b → upto f a ≤ upto f b
upto_rises f a b l = let s : a + (b - a) ≡ b = omega arith in omega (arith, upto_add f a (b - a), ap (upto f) s)

-- m rows of l places each
pub upto_rows : (f : ℕ → ℕ) (l m : ℕ) → upto (λ c. upto (λ x. f (c * l + x)) l) m ≡ upto f (m * l)
upto_rows f l zero = sym (ap (upto f) (law.zero-mul l))
upto_rows f l (suc m) = omega (arith, upto_rows f l m, upto_add f (m * l) l, ap (upto f) (law.suc-mul m l))

pub upto_grid : (f : ℕ → ℕ) (l m : ℕ) → upto (λ x. upto (λ c. f (c * l + x)) m) l ≡ upto f (m * l)
upto_grid f l m = upto_swap (λ x c. f (c * l + x)) m l ∙ upto_rows f l m

-- s where x is from a up to b, else 0
abbrev pub inside : ℕ → ℕ → ℕ → ℕ → ℕ
inside a b x s = cond (leb a x && ltb x b) s 0

pub inside_in : (a b x s : ℕ) → a ≤ x → x < b → inside a b x s ≡ s
inside_in a b x s l u = grind (arith, nat_tests)

pub inside_low : (a b x s : ℕ) → x < a → inside a b x s ≡ 0
inside_low a b x s l = grind (arith, nat_tests)

pub inside_high : (a b x s : ℕ) → b ≤ x → inside a b x s ≡ 0
inside_high a b x s l = grind (arith, nat_tests)

abbrev pub between : ℕ → ℕ → ℕ → ℕ
between a b x = inside a b x 1

pub upto_between : (a b n : ℕ) → a ≤ b → upto (between a b) n ≡ min n b - min n a
upto_between a b zero l = omega arith
upto_between a b (suc n) l = let e = upto_between a b n l in
    ⊎_elim (λ low. omega (arith, e, inside_low a b n 1 low)) (λ above. ⊎_elim (λ here. omega (arith, e, inside_in a b n 1 above here)) (λ high. omega (arith, e, inside_high a b n 1 high)) (cases_lt n b)) (cases_lt n a)

-- sums over lists as sums over places
pub sum_by_made : {X : Type 0} (g : X → ℕ) (f : ℕ → X) (n : ℕ) → sum_by g (map f (range_with_len 0 n)) ≡ upto (λ i. g (f i)) n
sum_by_made g f zero = refl
sum_by_made g f (suc n) = ap (λ (m : ℕ). sum_by g (map f (range_with_len 0 m))) (sym (add-one n)) ∙ sum_by-map-range_with_len_more g f 0 n n (omega arith) ∙ ap (λ (s : ℕ). s + g (f n)) (sum_by_made g f n)

pub sum_by_counting : (f : ℕ → ℕ) (n : ℕ) → sum_by f (range_with_len 0 n) ≡ upto f n
sum_by_counting f n = sym (sum-map f (range_with_len 0 n)) ∙ sum_by_made (λ x. x) f n

pub sum_take : (xs : List ℕ) (n : ℕ) → sum (take n xs) ≡ upto (λ i. get_or xs i 0) n
sum_take xs zero = refl
sum_take xs (suc n) = ⊎_elim (λ l. ap (λ (m : ℕ). sum (take m xs)) (sym (add-one n)) ∙ sum_by_more (λ x. x) xs n 0 l ∙ ap (λ (s : ℕ). s + get_or xs n 0) (sum_take xs n)) (λ l. let t = take_all (suc n) xs (omega arith) in let u = take_all n xs l in let v = get_or_past xs n 0 l in omega (arith, ap sum t, ap sum u, sum_take xs n, v)) (cases_lt n (length xs))

-- a sum over places of sums over a list
pub sum_by_swap : {X : Type 0} (f : ℕ → X → ℕ) (xs : List X) (n : ℕ) → upto (λ i. sum_by (f i) xs) n ≡ sum_by (λ x. upto (λ i. f i x) n) xs
sum_by_swap f [] n = upto_none n
sum_by_swap f (x ∷ xs) n = upto_same (λ i. sum_by (f i) (x ∷ xs)) (λ i. f i x + sum_by (f i) xs) n (λ i l. sum_by-cons (f i) x xs) ∙ upto_plus (λ i. f i x) (λ i. sum_by (f i) xs) n ∙ ap (λ (s : ℕ). upto (λ i. f i x) n + s) (sum_by_swap f xs n) ∙ sym (sum_by-cons (λ x. upto (λ i. f i x) n) x xs)
