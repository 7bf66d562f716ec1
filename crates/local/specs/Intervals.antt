-- The slices of an interval, for any local scheduler.
use Rattle.std.specs.Prelude.{◌≡◌, ℕ, ◌+◌, ◌≤◌, List, [], ◌∷◌, ◌++◌, length, replicate}
use Rattle.std.specs.List.{AllByRecursion}
use Rattle.chart.specs.Charts.{Chart, got, Once}
use Rattle.local.specs.Meaning.{Local, Loaded, Handed, share_of, positive}
use Rattle.local.specs.declared.slice.Slice.{Slice}

-- from s on the slices zs are handed out one by one, until in s' no tick is left
abbrev pub Slices : {S : Type 0} → Local S → S → List Slice → S → Type 0
Slices m s [] s' = (m.left s ≡ 0) × (s' ≡ s)
Slices {S} m s (z ∷ zs) s' = (s₁ : S) × Handed m s z s₁ × Slices m s₁ zs s'

-- the slices zs of an interval, from its load on
abbrev pub Interval : {S : Type 0} → Local S → S → ℕ → ℕ → List ℕ → List Slice → S → Type 0
Interval {S} m s width len shares zs s' = (s₁ : S) × Loaded m s width len shares s₁ × Slices m s₁ zs s'

-- slices laid end to end as a chart
abbrev pub laid : List Slice → Chart
laid [] = []
laid (z ∷ zs) = replicate z.length z.seats ++ laid zs

-- they are exactly the ticks of the interval, give every task exactly its share, seat no task twice in a tick, and are few
pub record Served (len : ℕ) (shares : List ℕ) (zs : List Slice) : Type 0 where
  pub whole : length (laid zs) ≡ len
  pub gets : (task : ℕ) → 1 ≤ task → got task (laid zs) ≡ share_of shares task
  pub once : AllByRecursion Once (laid zs)
  pub few : length zs ≤ positive shares + 1

-- P of each slice and the state that it is handed out in
abbrev pub Each : {S : Type 0} (m : Local S) → (S → Slice → Type 0) → (s : S) (zs : List Slice) (s' : S) → Slices m s zs s' → Type 0
Each m P s [] s' e = Unit {0}
Each m P s (z ∷ zs) s' e = P s z × Each m P e.0 zs s' e.2
