-- Seats and masks: how many are taken, and switches and busy ticks of slices in a row.
use Rattle.std.proofs.Common.{◌≡◌, ℕ, zero, suc, ◌+◌, ◌*◌, ◌%◌, ◌≤◌, Bool, true, false, cond, not, ◌&&◌, eqb, List, [], ◌∷◌, ◌++◌, get_or, drop, count_by, sym, refl, ap, ◌∙◌, arith}
use lib.Count.{ones}
use native.Mathlib.Nat as law
use Rattle.std.proofs.lemmas.List.Sums.{sum_by-cons, sum_by_push}
use Rattle.std.proofs.lemmas.Bool.{eq-eqb}
use Rattle.std.proofs.lemmas.Bool.Decides.{nat_tests}
use Rattle.card.specs.declared.types.Card.{Card}
use Rattle.chart.specs.Charts.{Row}
use Rattle.card.specs.Cards.{released, tasks_of}
use Rattle.local.specs.Masks.{bit, seated_cores}
use Rattle.local.proofs.Masks.{ones_mask}
use Rattle.dispatch.specs.declared.Stamped.{Stamped}
use Rattle.dispatch.specs.Counts.{ticks, changed, switches_of, busy_ticks}
use Rattle.dispatch.proofs.Charts.{ticks_cons}

abbrev pub taken : Row → ℕ
taken xs = count_by (λ x. not (eqb x 0)) xs

-- behind the first n seats all are empty
abbrev pub Narrow : ℕ → Row → Type 0
Narrow n xs = (c : ℕ) → n ≤ c → get_or xs c 0 ≡ 0

narrow_tail : (n : ℕ) (x : ℕ) (xs : Row) → Narrow (suc n) (x ∷ xs) → Narrow n xs
narrow_tail n x xs p c l = p (suc c) (omega arith)

narrow_all : (x : ℕ) (xs : Row) → Narrow 0 (x ∷ xs) → Narrow 0 xs
narrow_all x xs p c l = p (suc c) (omega arith)

bit_le : (b : Bool) → cond b 1 0 ≤ 1
bit_le true = omega arith
bit_le false = omega arith

empty_seat : (x : ℕ) → x ≡ 0 → not (eqb x 0) ≡ false
empty_seat x e = ap not (eq-eqb x 0 e)

pub taken_narrow : (n : ℕ) (xs : Row) → Narrow n xs → taken xs ≤ n
taken_narrow n [] p = omega arith
taken_narrow zero (x ∷ xs) p =
    let a = sum_by-cons (λ (x : ℕ). cond (not (eqb x 0)) 1 0) x xs in
    let b = taken_narrow zero xs (narrow_all x xs p) in
    let c : ◌≡◌ {A = ℕ} (cond (not (eqb x 0)) 1 0) 0 = ap (λ (t : Bool). cond t 1 0) (empty_seat x (p 0 (omega arith))) in
    omega (arith, a, b, c)
taken_narrow (suc n) (x ∷ xs) p =
    let a = sum_by-cons (λ (x : ℕ). cond (not (eqb x 0)) 1 0) x xs in
    let b = taken_narrow n xs (narrow_tail n x xs p) in
    let c = bit_le (not (eqb x 0)) in
    omega (arith, a, b, c)

pub changed_taken : (before xs : Row) → changed before xs ≤ taken xs
changed_taken before [] = omega arith
changed_taken before (x ∷ xs) =
    let a = sum_by-cons (λ (x : ℕ). cond (not (eqb x 0)) 1 0) x xs in
    let b = changed_taken (drop 1 before) xs in
    let c = both (not (eqb x 0)) (not (eqb x (get_or before 0 0))) in
    omega (arith, a, b, c)
  where
    both : (p q : Bool) → cond (p && q) 1 0 ≤ cond p 1 0
    both true q = bit_le q
    both false q = omega arith

-- the seats that are taken are those that the mask marks
taken_seated : (xs : Row) → seated_cores xs ≡ taken xs
taken_seated [] = refl
taken_seated (x ∷ xs) =
    let a = sum_by-cons (λ (x : ℕ). cond (not (eqb x 0)) 1 0) x xs in
    let b = sum_by-cons bit x xs in
    let c : bit x ≡ cond (not (eqb x 0)) 1 0 = grind (arith, nat_tests) in
    omega (arith, a, b, c, taken_seated xs)

-- the seats of the last slice, or those before
abbrev pub last_seats : Row → List Stamped → Row
last_seats before [] = before
last_seats before (z ∷ zs) = last_seats z.slice.seats zs

pub last_seats_push : (before : Row) (zs : List Stamped) (z : Stamped) → last_seats before (zs ++ z ∷ []) ≡ z.slice.seats
last_seats_push before [] z = refl
last_seats_push before (y ∷ zs) z = last_seats_push y.slice.seats zs z

pub switches_push : (card : Card) (h a : ℕ) (before : Row) (zs : List Stamped) (z : Stamped) → switches_of card h a before (zs ++ z ∷ []) ≡ switches_of card h a before zs + changed (cond (released (tasks_of card) ((a + ticks zs) % h)) [] (last_seats before zs)) z.slice.seats
switches_push card h a before [] z =
    let b : changed (cond (released (tasks_of card) (a % h)) [] before) z.slice.seats ≡ changed (cond (released (tasks_of card) ((a + 0) % h)) [] before) z.slice.seats = ap (λ (n : ℕ). changed (cond (released (tasks_of card) (n % h)) [] before) z.slice.seats) (sym (law.add-zero a)) in
    omega (arith, b)
switches_push card h a before (y ∷ zs) z =
    let c = ticks_cons y zs in
    let e : a + y.slice.length + ticks zs ≡ a + ticks (y ∷ zs) = omega (arith, c) in
    let ih = switches_push card h (a + y.slice.length) y.slice.seats zs z in
    let q = ap (λ (n : ℕ). changed (cond (released (tasks_of card) (n % h)) [] (last_seats y.slice.seats zs)) z.slice.seats) e in
    omega (arith, ih, q)

pub busy_push : (zs : List Stamped) (z : Stamped) → busy_ticks (zs ++ z ∷ []) ≡ busy_ticks zs + z.slice.length * ones z.slice.busy
busy_push zs z = sum_by_push (λ z. z.slice.length * ones z.slice.busy) zs z

pub ones_busy : (z : Stamped) → ones z.slice.busy ≡ taken z.slice.seats
ones_busy z = ap ones z.slice.masked ∙ ones_mask z.slice.seats ∙ taken_seated z.slice.seats
