-- The chart of slices in a row, and what a task gets in a part of a chart.
use Rattle.std.proofs.Common.{◌≡◌, ℕ, ◌+◌, ◌*◌, ◌≤◌, eqb, List, [], ◌∷◌, ◌++◌, length, take, drop, replicate, sum_by, count_by, sym, refl, ap, ◌∙◌, subst, arith}
use Rattle.std.specs.List.{AllByRecursion}
use Rattle.std.proofs.lemmas.List.{append_assoc, append-nil, length-append, length-replicate, take-append-le, take-append-drop, take_all}
use Rattle.std.proofs.lemmas.List.Sums.{sum_by-cons, sum_by-append, sum_by_push}
use Rattle.std.proofs.ByRecursion.{All-append}
use Rattle.chart.specs.Charts.{Row, Chart, part, got, Once}
use Rattle.chart.proofs.Parts.{part_front}
use Rattle.chart.proofs.Repeated.{all_replicate}
use Rattle.std.proofs.Math.Nat.{mul_comm}
use Rattle.std.proofs.lemmas.List.Folds.{sum_by-replicate}
use Rattle.dispatch.specs.declared.Stamped.{Stamped}
use Rattle.dispatch.specs.Counts.{chart, ticks}

abbrev pub count : ℕ → Row → ℕ
count task row = count_by (eqb task) row

pub sum_by_replicate : {X : Type 0} (f : X → ℕ) (n : ℕ) (x : X) → sum_by f (replicate n x) ≡ f x * n
sum_by_replicate f n x = sum_by-replicate f n x ∙ mul_comm n (f x)

pub chart_append : (xs ys : List Stamped) → chart (xs ++ ys) ≡ chart xs ++ chart ys
chart_append [] ys = refl
chart_append (x ∷ xs) ys = ap (λ (c : Chart). replicate x.slice.length x.slice.seats ++ c) (chart_append xs ys) ∙ sym (append_assoc (replicate x.slice.length x.slice.seats) (chart xs) (chart ys))

pub chart_push : (zs : List Stamped) (z : Stamped) → chart (zs ++ z ∷ []) ≡ chart zs ++ replicate z.slice.length z.slice.seats
chart_push zs z = chart_append zs (z ∷ []) ∙ ap (λ (c : Chart). chart zs ++ c) (append-nil (replicate z.slice.length z.slice.seats))

pub ticks_append : (xs ys : List Stamped) → ticks (xs ++ ys) ≡ ticks xs + ticks ys
ticks_append xs ys = sum_by-append (λ z. z.slice.length) xs ys

pub ticks_push : (zs : List Stamped) (z : Stamped) → ticks (zs ++ z ∷ []) ≡ ticks zs + z.slice.length
ticks_push zs z = sum_by_push (λ z. z.slice.length) zs z

pub ticks_cons : (z : Stamped) (zs : List Stamped) → ticks (z ∷ zs) ≡ z.slice.length + ticks zs
ticks_cons z zs = sum_by-cons (λ z. z.slice.length) z zs

pub length_chart : (zs : List Stamped) → length (chart zs) ≡ ticks zs
length_chart [] = refl
length_chart (z ∷ zs) =
    let a = length-append (replicate z.slice.length z.slice.seats) (chart zs) in
    let b = length-replicate z.slice.length z.slice.seats in
    let c = length_chart zs in
    let d = ticks_cons z zs in
    omega (arith, a, b, c, d)

pub got_append : (task : ℕ) (c d : Chart) → got task (c ++ d) ≡ got task c + got task d
got_append task c d = sum_by-append (count task) c d

pub got_push : (task : ℕ) (zs : List Stamped) (z : Stamped) → got task (chart (zs ++ z ∷ [])) ≡ got task (chart zs) + count task z.slice.seats * z.slice.length
got_push task zs z =
    let a = ap (got task) (chart_push zs z) in
    let b = got_append task (chart zs) (replicate z.slice.length z.slice.seats) in
    let c = sum_by_replicate (count task) z.slice.length z.slice.seats in
    omega (arith, a, b, c)

-- what is in front of a part, and the part
pub got_part : (task a b : ℕ) (c : Chart) → a ≤ b → got task (take a c) + got task (part a b c) ≡ got task (take b c)
got_part task a b c l = omega (arith, part_front (count task) c a b l)

-- what is in front of a tick, and the rest
pub got_drop : (task a : ℕ) (c : Chart) → got task (take a c) + got task (drop a c) ≡ got task c
got_drop task a c = sym (got_append task (take a c) (drop a c)) ∙ ap (got task) (take-append-drop a c)

-- a front of the chart is not changed by another slice
pub got_front : (task a : ℕ) (zs : List Stamped) (z : Stamped) → a ≤ ticks zs → got task (take a (chart (zs ++ z ∷ []))) ≡ got task (take a (chart zs))
got_front task a zs z l =
    let e = length_chart zs in
    let le : a ≤ length (chart zs) = omega (arith, e, l) in
    ap (λ (c : Chart). got task (take a c)) (chart_push zs z) ∙ ap (got task) (take-append-le a (chart zs) (replicate z.slice.length z.slice.seats) le)

pub got_all : (task a : ℕ) (zs : List Stamped) → ticks zs ≤ a → got task (take a (chart zs)) ≡ got task (chart zs)
got_all task a zs l = let e = length_chart zs in let le : length (chart zs) ≤ a = omega (arith, e, l) in ap (got task) (take_all a (chart zs) le)

pub once_push : (zs : List Stamped) (z : Stamped) → AllByRecursion Once (chart zs) → Once z.slice.seats → AllByRecursion Once (chart (zs ++ z ∷ []))
once_push zs z all one = subst (AllByRecursion Once) (sym (chart_push zs z)) (All-append Once (chart zs) (replicate z.slice.length z.slice.seats) all (all_replicate Once z.slice.length z.slice.seats one))
