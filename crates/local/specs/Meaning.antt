-- What a local scheduler holds, and what load and next do to that.
use Rattle.std.specs.Prelude.{◌≡◌, ℕ, ◌+◌, ◌-◌, ◌*◌, ◌<◌, ◌≤◌, cond, ◌&&◌, List, length, sum, count_by, ◌==◌, nat_eq, nat_le, nat_lt, slice_index}
use Rattle.std.specs.List.{AllByRecursion}
use Rattle.local.specs.declared.slice.Slice.{Slice}

-- What it holds, and, as far as an implementation tells, where a load and a next lead.
pub record Local (S : Type 0) : Type 1 where
  pub width : S → ℕ
  pub left : S → ℕ
  pub amount : S → ℕ → ℕ
  pub choice : S → Slice
  pub allowance : S → ℕ
  pub loads : S → ℕ → ℕ → List ℕ → S → Type 0
  pub steps : S → S → Type 0

-- the amount of a task, counted from 1; of any other number it is 0
abbrev pub amount_of : {S : Type 0} → Local S → S → ℕ → ℕ
amount_of m s task = cond (nat_le 1 task && nat_le task 32) (m.amount s task) 0

-- a new one
pub record Fresh {S : Type 0} (m : Local S) (s : S) : Type 0 where
  pub ticks : m.left s ≡ 0
  pub amounts : (task : ℕ) → amount_of m s task ≡ 0

-- the share of a task, 0 behind the list and for number 0
abbrev pub share_of : List ℕ → ℕ → ℕ
share_of shares task = cond (task == 0) 0 (slice_index shares (task - 1))

abbrev pub positive : List ℕ → ℕ
positive shares = count_by (nat_lt 0) shares

-- a width, a length and a number of tasks within their limits
abbrev pub Limits : ℕ → ℕ → ℕ → Type 0
Limits width len count = (1 ≤ width) × (width ≤ 16) × (1 ≤ len) × (len ≤ 1000000) × (count ≤ 32)

-- when load takes a width, a length and shares
pub record Fit (width len : ℕ) (shares : List ℕ) : Type 0 where
  pub limits : Limits width len (length shares)
  pub narrow : AllByRecursion (λ share. share ≤ len) shares
  pub room : sum shares ≤ width * len

pub record Loaded {S : Type 0} (m : Local S) (s : S) (width len : ℕ) (shares : List ℕ) (s' : S) : Type 0 where
  pub fit : Fit width len shares
  pub cores : m.width s' ≡ width
  pub ticks : m.left s' ≡ len
  pub amounts : (task : ℕ) → amount_of m s' task ≡ share_of shares task
  pub some_slice : 1 ≤ m.allowance s'
  pub few_slices : m.allowance s' ≤ positive shares + 1
  pub goes : m.loads s width len shares s'

-- the seat of core c, counted from 0
abbrev pub seat : Slice → ℕ → ℕ
seat z c = slice_index z.seats c

abbrev pub seated : Slice → ℕ → ℕ
seated z task = count_by (nat_eq task) z.seats

pub record Handed {S : Type 0} (m : Local S) (s : S) (z : Slice) (s' : S) : Type 0 where
  pub chosen : z ≡ m.choice s
  pub some : 1 ≤ z.length
  pub within : z.length ≤ m.left s
  pub above_idle : (c : ℕ) → m.width s ≤ c → seat z c ≡ 0
  pub once : (task : ℕ) → 1 ≤ task → seated z task ≤ 1
  pub enough : (task : ℕ) → 1 ≤ task → 1 ≤ seated z task → z.length ≤ amount_of m s task
  pub same_width : m.width s' ≡ m.width s
  pub ticks : m.left s' + z.length ≡ m.left s
  pub amounts : (task : ℕ) → 1 ≤ task → amount_of m s' task + seated z task * z.length ≡ amount_of m s task
  pub fits : (task : ℕ) → amount_of m s' task ≤ m.left s'
  pub fewer : m.allowance s' < m.allowance s
  pub some_left : 1 ≤ m.left s' → 1 ≤ m.allowance s'
  pub goes : m.steps s s'
