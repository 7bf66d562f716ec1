-- Sums over parts of a list, by the sums over its fronts.
use Rattle.std.proofs.Common.{◌≡◌, ℕ, ◌+◌, ◌-◌, ◌≤◌, length, take, drop, sum_by, sym, ap, ◌∙◌, arith}
use Rattle.std.specs.List.{AllByRecursion}
use Rattle.std.proofs.lemmas.List.{drop-take, take-take, length-take}
use Rattle.std.proofs.lemmas.List.Sums.{sum_by-take-drop}
use Rattle.std.proofs.ByRecursion.{All-take, All-drop}
use Rattle.chart.specs.Charts.{Chart, Row, part}

pub part_front : (f : Row → ℕ) (chart : Chart) (a b : ℕ) → a ≤ b → sum_by f (part a b chart) + sum_by f (take a chart) ≡ sum_by f (take b chart)
part_front f chart a b l =
    let s : a + (b - a) ≡ b = omega arith in
    let d : drop a (take b chart) ≡ part a b chart = ap (λ (n : ℕ). drop a (take n chart)) (sym s) ∙ drop-take a (b - a) chart in
    let e : sum_by f (take a (take b chart)) + sum_by f (drop a (take b chart)) ≡ sum_by f (take b chart) = sum_by-take-drop f (take b chart) a in
    omega (arith, e, ap (sum_by f) d, ap (sum_by f) (take-take a b chart l))

pub length_part : (chart : Chart) (a b : ℕ) → length (part a b chart) ≤ b - a
length_part chart a b = omega (arith, length-take (b - a) (drop a chart))

pub all_part : (P : Row → Type 0) (chart : Chart) (a b : ℕ) → AllByRecursion P chart → AllByRecursion P (part a b chart)
all_part P chart a b h = All-take P (b - a) (drop a chart) (All-drop P a chart h)
