-- Sums over a list without its last or first element, and over jobs that get less.
use Rattle.std.proofs.Common.{◌≡◌, ℕ, zero, suc, ◌+◌, ◌-◌, ◌*◌, ◌<◌, ◌≤◌, Bool, true, false, cond, eqb, List, [], ◌∷◌, ◌++◌, map, length, get_or, take, drop, sum_by, count_by, sym, refl, ap, ◌∙◌, le_of_suc-le-suc, add-mul, arith}
use Rattle.std.specs.List.{remove, AllByRecursion}
use Rattle.std.proofs.lemmas.List.{take_all, length_push}
use Rattle.std.proofs.lemmas.List.Sums.{sum_by_more, sum_by-cons, sum_by_push, sum_by-remove}
use Rattle.std.proofs.ByRecursion.{All-append, All-take, All-drop}
use Rattle.izl_rule.specs.declared.Running.{Running}
use Rattle.izl_rule.specs.Rule as rule
use Rattle.izl_rule.specs.Rule.{nothing, running_of}
use Rattle.izl_rule.specs.Invariant.{seated}
use Rattle.izl_rule.proofs.Steps.{Job, lowered}

module _ {X : Type 0} (f : X → ℕ) where
  pub sum_by_last : (xs : List X) (d : X) → 0 < length xs → sum_by f (take (length xs - 1) xs) + f (get_or xs (length xs - 1) d) ≡ sum_by f xs
  sum_by_last xs d h = sym (sum_by_more f xs (length xs - 1) d (omega arith)) ∙ ap (sum_by f) (take_all (length xs - 1 + 1) xs (omega arith))

  pub sum_by_first : (xs : List X) (d : X) → 0 < length xs → f (get_or xs 0 d) + sum_by f (drop 1 xs) ≡ sum_by f xs
  sum_by_first [] d h = omega arith
  sum_by_first (x ∷ xs) d h = sym (sum_by-cons f x xs)

  pub sum_by_rotated : (xs : List X) → sum_by f (drop 1 xs ++ take 1 xs) ≡ sum_by f xs
  sum_by_rotated [] = refl
  sum_by_rotated (x ∷ xs) = omega (arith, sum_by_push f xs x, sum_by-cons f x xs)

pub sum_by_map : {X Y : Type 0} (f : Y → ℕ) (g : X → Y) (xs : List X) → sum_by f (map g xs) ≡ sum_by (λ x. f (g x)) xs
sum_by_map f g [] = refl
sum_by_map f g (x ∷ xs) = sum_by-cons f (g x) (map g xs) ∙ ap (λ n. f (g x) + n) (sum_by_map f g xs) ∙ sym (sum_by-cons (λ x. f (g x)) x xs)

pub all_rotated : {X : Type 0} (P : X → Type 0) (xs : List X) → AllByRecursion P xs → AllByRecursion P (drop 1 xs ++ take 1 xs)
all_rotated P xs h = All-append P (drop 1 xs) (take 1 xs) (All-drop P 1 xs h) (All-take P 1 xs h)

pub length_rotated : {X : Type 0} (xs : List X) → length (drop 1 xs ++ take 1 xs) ≡ length xs
length_rotated [] = refl
length_rotated (x ∷ xs) = omega (arith, length_push xs x)

abbrev pub bit : Bool → ℕ
bit b = cond b 1 0

-- what the tasks that pass a test have left, and how many they are
abbrev pub held : (ℕ → Bool) → List Job → ℕ
held p = sum_by (λ j. cond (p j.task) j.amount 0)

abbrev pub many : (ℕ → Bool) → List Job → ℕ
many p = count_by (λ j. p j.task)

pub many_all : (js : List Job) → many (λ _. true) js ≡ length js
many_all [] = refl
many_all (j ∷ js) = omega (arith, sum_by-cons (λ (j : Job). 1) j js, many_all js)

-- a first job that has ended is as good as none
pub held_rest : (p : ℕ → Bool) (js : List Job) → (get_or js 0 nothing).amount ≡ 0 → held p (drop 1 js) ≡ held p js
held_rest p [] e = refl
held_rest p (j ∷ js) e = omega (arith, sum_by-cons (λ (j : Job). cond (p j.task) j.amount 0) j js, none (p j.task))
  where
    none : (b : Bool) → cond b j.amount 0 ≡ 0
    none true = e
    none false = refl

pub many_rest : (p : ℕ → Bool) (js : List Job) → many p (drop 1 js) ≤ many p js
many_rest p [] = omega arith
many_rest p (j ∷ js) = omega (arith, sum_by-cons (λ (j : Job). cond (p j.task) 1 0) j js)

-- a job that goes from place n
pub held_removed : (p : ℕ → Bool) (js : List Job) (n : ℕ) → n < length js → (get_or js n nothing).amount ≡ 0 → held p (remove js n) ≡ held p js
held_removed p js n l e = omega (arith, sum_by-remove (λ (j : Job). cond (p j.task) j.amount 0) js n nothing l, none (p (get_or js n nothing).task))
  where
    none : (b : Bool) → cond b (get_or js n nothing).amount 0 ≡ 0
    none true = e
    none false = refl

pub many_removed : (p : ℕ → Bool) (js : List Job) (n : ℕ) → n < length js → many p (remove js n) ≤ many p js
many_removed p js n l = omega (arith, sum_by-remove (λ (j : Job). cond (p j.task) 1 0) js n nothing l)

module _ (p : ℕ → Bool) (m : ℕ) where
  one_le : (b : Bool) (a h c : ℕ) → a ≤ m → h ≤ c * m → cond b a 0 + h ≤ (cond b 1 0 + c) * m
  one_le true a h c k l = omega (arith, add-mul 1 c m)
  one_le false a h c k l = omega (arith, add-mul 0 c m)

  pub held_le : (js : List Job) → AllByRecursion (λ j. j.amount ≤ m) js → held p js ≤ many p js * m
  held_le [] h = omega arith
  held_le (j ∷ js) h = simp (sum_by-cons) (one_le (p j.task) j.amount (held p js) (many p js) h.0 (held_le js h.1))

  one_less : (b : Bool) (a h c k : ℕ) → m ≤ a → h + c * m ≡ k → (cond b (a - m) 0 + h) + (cond b 1 0 + c) * m ≡ cond b a 0 + k
  one_less true a h c k l e = omega (arith, add-mul 1 c m)
  one_less false a h c k l e = omega (arith, add-mul 0 c m)

  pub held_lowered : (n : ℕ) (js : List Job) → AllByRecursion (λ j. m ≤ j.amount) (take n js) → held p (lowered n m js) + many p (take n js) * m ≡ held p js
  held_lowered zero js h = omega arith
  held_lowered (suc n) [] h = omega arith
  held_lowered (suc n) (j ∷ js) h = simp (sum_by-cons) (one_less (p j.task) j.amount (held p (lowered n m js)) (many p (take n js)) (held p js) h.0 (held_lowered n js h.1))

  pub many_lowered : (n : ℕ) (js : List Job) → many p (lowered n m js) ≡ many p js
  many_lowered zero js = refl
  many_lowered (suc n) [] = refl
  many_lowered (suc n) (j ∷ js) = simp (sum_by-cons) (ap (λ c. cond (p j.task) 1 0 + c) (many_lowered n js))

-- the tasks that took cores over get less too
pub taken_lowered : (task t : ℕ) (rs : List Running) → AllByRecursion (λ r. t ≤ r.amount) rs → running_of task (map (rule.lowered t) rs) + seated task rs * t ≡ running_of task rs
taken_lowered task t [] h = omega arith
taken_lowered task t (r ∷ rs) h = simp (sum_by-cons) (one_less (eqb task) t (eqb task r.task) r.amount (running_of task (map (rule.lowered t) rs)) (seated task rs) (running_of task rs) h.0 (taken_lowered task t rs h.1))

pub length_lowered : (n t : ℕ) (js : List Job) → length (lowered n t js) ≡ length js
length_lowered zero t js = refl
length_lowered (suc n) t [] = refl
length_lowered (suc n) t (j ∷ js) = ap suc (length_lowered n t js)

pub lowered_below : (n t : ℕ) (js : List Job) (k : ℕ) → k < n → k < length js → (get_or (lowered n t js) k nothing).amount ≡ (get_or js k nothing).amount - t
lowered_below zero t js k h l = omega arith
lowered_below (suc n) t [] k h l = omega arith
lowered_below (suc n) t (j ∷ js) zero h l = refl
lowered_below (suc n) t (j ∷ js) (suc k) h l = lowered_below n t js k (le_of_suc-le-suc h) (le_of_suc-le-suc l)

pub lowered_above : (n t : ℕ) (js : List Job) (k : ℕ) → n ≤ k → (get_or (lowered n t js) k nothing).amount ≡ (get_or js k nothing).amount
lowered_above zero t js k h = refl
lowered_above (suc n) t [] k h = refl
lowered_above (suc n) t (j ∷ js) zero h = absurd (omega arith)
lowered_above (suc n) t (j ∷ js) (suc k) h = lowered_above n t js k (le_of_suc-le-suc h)
