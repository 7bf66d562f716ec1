-- The seats that the tasks of cores make.
use Rattle.std.proofs.Common.{◌≡◌, ℕ, ◌<◌, List, [], ◌∷◌, ◌++◌, set, replicate, sym, refl, ap, ◌∙◌, arith}
use Rattle.std.specs.List.{AllByRecursion}
use Rattle.std.proofs.ByRecursion.{All-weaker}
use Rattle.izl_rule.specs.declared.Running.{Running}
use Rattle.izl_rule.specs.Rule.{State, row, seats}
use Rattle.izl_rule.specs.Invariant.{Held, merged}
use Rattle.izl_rule.proofs.Handing.{below}
use Rattle.izl.specs.View.{seated_over}

row_over : (rs ts : List Running) → row (rs ++ ts) ≡ seated_over (row ts) rs
row_over [] ts = refl
row_over (r ∷ rs) ts = ap (λ (xs : List ℕ). set xs r.core r.task) (row_over rs ts)

row_is : (ts : List Running) → row ts ≡ seated_over (replicate 16 0) ts
row_is [] = refl
row_is (r ∷ ts) = ap (λ (xs : List ℕ). set xs r.core r.task) (row_is ts)

pub running_low : (s : State) → Held (merged s) → AllByRecursion (λ r. r.core < 16) s.running
running_low s h = All-weaker (λ (r : Running). r.core < s.width) (λ (r : Running). r.core < 16) (λ r l. omega (arith, h.narrow)) s.running (below s h s.width s.running h.inside)

pub seats_are : (s : State) (xs ys : List ℕ) → xs ≡ seated_over (replicate 16 0) s.taken → ys ≡ seated_over xs s.running → ys ≡ seats s
seats_are s xs ys e f = f ∙ ap (λ (zs : List ℕ). seated_over zs s.running) (e ∙ sym (row_is s.taken)) ∙ sym (row_over s.running s.taken)
