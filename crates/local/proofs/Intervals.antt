-- The slices of any load serve its interval: from the clauses of a local scheduler alone.
use Rattle.std.proofs.Common.{◌≡◌, ℕ, ◌-◌, ◌<◌, ◌≤◌, eqb, ◌⊎◌, List, [], ◌∷◌, length, get_or, replicate, count_by, sym, ◌∙◌, inl, inr, arith}
use Rattle.std.proofs.Math.Nat.{mul_comm}
use Rattle.std.specs.List.{AllByRecursion}
use Rattle.std.proofs.lemmas.List.{length-append, length-replicate, get_or_past}
use Rattle.std.proofs.lemmas.List.Sums.{sum_by-append}
use Rattle.std.proofs.lemmas.List.Folds.{sum_by-replicate}
use Rattle.std.proofs.ByRecursion.{All-append, All-get_or}
use Rattle.std.proofs.lemmas.Bool.{cond_both, cases_lt}
use Rattle.chart.specs.Charts.{Row, got, Once}
use Rattle.chart.proofs.Repeated.{all_replicate}
use Rattle.local.specs.Meaning.{Local, Handed, Fit, amount_of, share_of}
use Rattle.local.specs.Intervals.{Slices, Interval, laid, Served, Each}
use Rattle.local.specs.declared.slice.Slice.{Slice}

module _ {S : Type 0} (m : Local S) where
  whole : (s : S) (zs : List Slice) (s' : S) → Slices m s zs s' → length (laid zs) ≡ m.left s
  whole s [] s' e = sym e.0
  whole s (z ∷ zs) s' e = omega (arith, length-append (replicate z.length z.seats) (laid zs), length-replicate z.length z.seats, whole e.0 zs s' e.2, e.1.ticks)

  -- what is left of a task is what it gets
  gets : (task : ℕ) → 1 ≤ task → (s : S) (zs : List Slice) (s' : S) → amount_of m s task ≤ m.left s → Slices m s zs s' → got task (laid zs) ≡ amount_of m s task
  gets task some s [] s' l e = omega (arith, e.0)
  gets task some s (z ∷ zs) s' l e =
      omega (arith, sum_by-append (λ (r : Row). count_by (eqb task) r) (replicate z.length z.seats) (laid zs), sum_by-replicate (λ (r : Row). count_by (eqb task) r) z.length z.seats, mul_comm z.length (count_by (eqb task) z.seats), gets task some e.0 zs s' (e.1.fits task) e.2, e.1.amounts task some)

  once : (s : S) (zs : List Slice) (s' : S) → Slices m s zs s' → AllByRecursion Once (laid zs)
  once s [] s' e = tt
  once s (z ∷ zs) s' e = All-append Once (replicate z.length z.seats) (laid zs) (all_replicate Once z.length z.seats e.1.once) (once e.0 zs s' e.2)

  few : (s : S) (zs : List Slice) (s' : S) → Slices m s zs s' → length zs ≤ m.allowance s
  few s [] s' e = omega arith
  few s (z ∷ zs) s' e = omega (arith, few e.0 zs s' e.2, e.1.fewer)

  share_fits : (width len : ℕ) (shares : List ℕ) → Fit width len shares → (task : ℕ) → share_of shares task ≤ len
  share_fits width len shares f task = cond_both (eqb task 0) 0 (get_or shares (task - 1) 0) (λ x. x ≤ len) (λ _. omega arith) (λ _. go (cases_lt (task - 1) (length shares)))
    where
      go : (task - 1 < length shares) ⊎ (length shares ≤ task - 1) → get_or shares (task - 1) 0 ≤ len
      go (inl l) = All-get_or (λ (x : ℕ). x ≤ len) shares (task - 1) 0 l f.narrow
      go (inr l) = omega (arith, get_or_past shares (task - 1) 0 l)

  pub served : (s : S) (width len : ℕ) (shares : List ℕ) (zs : List Slice) (s' : S) → Interval m s width len shares zs s' → Served len shares zs
  served s width len shares zs s' (s₁, l, e) = record {
    whole = whole s₁ zs s' e ∙ l.ticks;
    gets = λ task some. gets task some s₁ zs s' (omega (arith, l.amounts task, l.ticks, share_fits width len shares l.fit task)) e ∙ l.amounts task;
    once = once s₁ zs s' e;
    few = omega (arith, few s₁ zs s' e, l.few_slices);
  }

  pub each : (P : S → Slice → Type 0) → ((s s₁ : S) (z : Slice) → Handed m s z s₁ → P s z) → (s : S) (zs : List Slice) (s' : S) (e : Slices m s zs s') → Each m P s zs s' e
  each P h s [] s' e = tt
  each P h s (z ∷ zs) s' e = (h s e.0 z e.1, each P h e.0 zs s' e.2)
