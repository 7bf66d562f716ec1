-- Wrap-round: the shares of an interval laid end to end over its cores, and slices cut where a share ends.
use Rattle.std.specs.Prelude.{◌≡◌, ℕ, zero, suc, ◌+◌, ◌-◌, ◌*◌, ◌%◌, ◌<◌, ◌≤◌, min, max, Bool, true, false, cond, ◌&&◌, ◌||◌, List, [], ◌∷◌, ◌++◌, map, length, take, replicate, ◌==◌, ◌≢◌, nat_lt, slice_index, refl}
use Rattle.std.specs.List.{range_with_len}
use Rattle.chart.specs.Sums.{upto}
use Rattle.chart.specs.Laid.{whose}
use Rattle.local.specs.Masks.{mask}
use Rattle.local.specs.Meaning.{seat}
use Rattle.local.specs.declared.slice.Slice.{Slice}

-- the share of the task with i others before it, 0 behind the list
abbrev pub share_at : List ℕ → ℕ → ℕ
share_at shares i = slice_index shares i

-- a share for each of 32 tasks
abbrev pub Table : List ℕ → Type 0
Table shares = length shares ≡ 32

-- shares as such a table, 0 behind them
abbrev pub padded : List ℕ → List ℕ
padded shares = take 32 shares ++ replicate (32 - length shares) 0

-- the largest share
abbrev pub largest : List ℕ → ℕ
largest [] = 0
largest (x ∷ xs) = max x (largest xs)

-- the place of the line where the first n shares end
abbrev pub line_end : List ℕ → ℕ → ℕ
line_end shares n = upto (share_at shares) n

-- the task whose stretch of the line holds place p, 0 for none
abbrev pub task_at : List ℕ → ℕ → ℕ
task_at shares p = whose (share_at shares) (length shares) p

-- whether one of the first n shares is positive and ends at tick y of its core
abbrev pub ends_at : List ℕ → ℕ → ℕ → ℕ → Bool
ends_at shares len zero y = false
ends_at shares len (suc n) y = (nat_lt 0 (share_at shares n) && line_end shares (suc n) % len == y) || ends_at shares len n y

-- whether tick y is a cut by the first n shares: the interval's end, where a part cut off by its core's end ends too, or where one of them ends
abbrev pub cut_by : List ℕ → ℕ → ℕ → ℕ → Bool
cut_by shares len n y = len == y || (nat_lt 0 y && ends_at shares len n y)

-- whether tick y is a cut of these shares
abbrev pub cut : List ℕ → ℕ → ℕ → Bool
cut shares len y = cut_by shares len (length shares) y

-- the first of the n ticks from y on that passes, the one behind them if none does
abbrev pub first : (ℕ → Bool) → ℕ → ℕ → ℕ
first p y zero = y
first p y (suc n) = cond (p y) y (first p (y + 1) n)

-- the least cut above tick x
abbrev pub next_cut : List ℕ → ℕ → ℕ → ℕ
next_cut shares len x = first (cut shares len) (x + 1) (len - x)

-- the seat of core c, from 0, at tick x: place c * len + x of the line, idle at or above the width
abbrev pub seat_at : List ℕ → ℕ → ℕ → ℕ → ℕ → ℕ
seat_at shares width len x c = cond (nat_lt c width) (task_at shares (c * len + x)) 0

-- the sixteen seats at tick x
abbrev pub seats_at : List ℕ → ℕ → ℕ → ℕ → List ℕ
seats_at shares width len x = map (seat_at shares width len x) (range_with_len 0 16)

-- how many of the first n cores have a place of the task at tick y
abbrev pub cores_with : List ℕ → ℕ → ℕ → ℕ → ℕ → ℕ
cores_with shares len task y n = upto (λ c. cond (task == task_at shares (c * len + y)) 1 0) n

-- how many places from a up to b the first n cores have at tick x or later
abbrev pub meets : ℕ → ℕ → ℕ → ℕ → ℕ → ℕ
meets a b len x n = upto (λ c. min b (c * len + len) - max a (c * len + x)) n

-- what an interval that is handed out holds
pub record Interval : Type 0 where
  pub width : ℕ
  pub len : ℕ
  pub left : ℕ
  pub shares : List ℕ

-- the tick that the next slice begins at
abbrev pub offset : Interval → ℕ
offset v = v.len - v.left

-- to the least cut, with the seats of the first tick
abbrev pub choice : Interval → Slice
choice v = record {
  length = next_cut v.shares v.len (offset v) - offset v;
  seats = seats_at v.shares v.width v.len (offset v);
  busy = mask (seats_at v.shares v.width v.len (offset v));
  masked = refl;
}

-- the places of a task at the ticks that are left
abbrev pub amount : Interval → ℕ → ℕ
amount v task = upto (λ k. cores_with v.shares v.len task (offset v + k) v.width) v.left

-- the cuts that are left
abbrev pub allowance : Interval → ℕ
allowance v = upto (λ k. cond (cut v.shares v.len (offset v + 1 + k)) 1 0) v.left

-- an interval at its first tick
abbrev pub loaded : ℕ → ℕ → List ℕ → Interval
loaded width len shares = record { width = width; len = len; left = len; shares = padded shares }

-- an interval after its choice
abbrev pub after : Interval → Interval
after v = record { width = v.width; len = v.len; left = v.left - (choice v).length; shares = v.shares }

-- a slice by the line: at each of its ticks each core has the task of its place, it ends at a cut, and no cut is inside it
pub record Laid (v : Interval) (z : Slice) : Type 0 where
  pub seats : (c y : ℕ) → c < v.width → offset v ≤ y → y < offset v + z.length → seat z c ≡ task_at v.shares (c * v.len + y)
  pub ends : cut v.shares v.len (offset v + z.length) ≡ true
  pub uncut : (y : ℕ) → offset v < y → y < offset v + z.length → cut v.shares v.len y ≢ true
