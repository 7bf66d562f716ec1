-- What holds of every run, in terms of the answers alone.
use Rattle.std.specs.Prelude.{◌≡◌, ℕ, ◌+◌, ◌-◌, ◌%◌, ◌^◌, ◌<◌, ◌≤◌, false, List, [], ◌∷◌, ◌++◌, length, IsOkAnd, count_by}
use Prim.{Unit}
use Rattle.std.specs.List.{AllByRecursion}
use Rattle.chart.specs.Charts.{part, got, Once}
use Rattle.card.specs.declared.types.Card.{Card}
use Rattle.card.specs.Cards.{Frame, begins, span, run_time_of, opens, closes, boundary}
use Rattle.sheet.specs.declared.types.Sheet.{Sheet}
use Rattle.sheet.specs.declared.placement.Placement.{Placement}
use Rattle.sheet.specs.Sheets.{row}
use Rattle.sheet.specs.Held.{Holds, Empty}
use Rattle.local.specs.Meaning.{Local, Loaded, Handed, positive}
use Rattle.dispatch.specs.declared.Stamped.{Stamped}
use Rattle.dispatch.specs.Refused.{RefusedBy}
use Rattle.dispatch.specs.Counts.{chart, ticks, starts, from_to, switches_of, busy_ticks, frame_work, given_of, frame_start}
use Rattle.dispatch.specs.Runs.{Call, handed}
use Rattle.dispatch.specs.Runs.Call.{next_slice, account, tally}

-- the slices zs of a run that began with frame `first`; frames of the run, jobs, tasks and intervals count from 0
pub record Kept (card : Card) (sheet : Sheet) (h first : ℕ) (zs : List Stamped) : Type 0 where
  -- job j of task i in frame f of the run, whose window has passed, got its run time in it
  pub deadlines : (f i j : ℕ) → i < card.count → closes card i j ≤ h → frame_start h f + closes card i j ≤ length (chart zs) → got (i + 1) (part (frame_start h f + opens card i j) (frame_start h f + closes card i j) (chart zs)) ≡ run_time_of card i
  -- no job holds two cores in one tick
  pub once : AllByRecursion Once (chart zs)
  pub first_stamp : (z : Stamped) (later : List Stamped) → zs ≡ z ∷ later → z.stamp ≡ frame_start h first
  pub next_stamps : (early later : List Stamped) (y z : Stamped) → zs ≡ early ++ y ∷ z ∷ later → z.stamp ≡ y.stamp + y.slice.length
  -- interval k of frame f took at most one slice more than it has shares above zero
  pub few : (f k : ℕ) → k < sheet.rows → count_by (from_to (frame_start h f + begins card h k) (frame_start h f + begins card h (k + 1))) (starts 0 zs) ≤ positive (row sheet k) + 1
  -- each slice has a length and lies in one interval of one frame
  pub inside : (early later : List Stamped) (z : Stamped) → zs ≡ early ++ z ∷ later → (1 ≤ z.slice.length) × ((f : ℕ) × (k : ℕ) × (k < sheet.rows) × (frame_start h f + begins card h k ≤ ticks early) × (ticks early + z.slice.length ≤ frame_start h f + begins card h (k + 1)))
  -- over a whole frame the busy ticks grow by the run times of all its jobs
  pub grown : (f : ℕ) (early frame later : List Stamped) → zs ≡ early ++ (frame ++ later) → ticks early ≡ frame_start h f → ticks frame ≡ h → busy_ticks (early ++ frame) ≡ busy_ticks early + frame_work card h

-- The slices zs are those that the scheduler chose, from the state s on: loaded with the card's width, the interval's length and its
-- row of shares where a slice begins an interval, and only there.
pub data Follows {S : Type 0} (m : Local S) (card : Card) (sheet : Sheet) (h : ℕ) (s : S) : List Stamped → S → Type 0 where
  untouched : Follows m card sheet h s [] s
  opening : (zs : List Stamped) (z : Stamped) (k : ℕ) (s₁ s₂ s₃ : S) → Follows m card sheet h s zs s₁ → k < sheet.rows → ticks zs % h ≡ begins card h k → Loaded m s₁ card.cores (span card h k) (row sheet k) s₂ → Handed m s₂ z.slice s₃ → Follows m card sheet h s (zs ++ z ∷ []) s₃
  going_on : (zs : List Stamped) (z : Stamped) (s₁ s₂ : S) → Follows m card sheet h s zs s₁ → boundary card (ticks zs % h) ≡ false → Handed m s₁ z.slice s₂ → Follows m card sheet h s (zs ++ z ∷ []) s₂

-- P of each call, and the calls before it
abbrev pub EachCall : (Call → List Call → Type 0) → List Call → Type 0
EachCall P [] = Unit {0}
EachCall P (c ∷ earlier) = P c earlier × EachCall P earlier

-- What a call answers, by the slices handed out before it. Next slice gives one until the frames from the first to 4,294,967,295 are
-- handed out whole, and refuses by 42 from then on; account gives what the task was given and what it is owed, together its run time,
-- or refuses by 43.
abbrev pub Right : Card → ℕ → ℕ → Call → List Call → Type 0
Right card h first (next_slice r) earlier = (frame_start h first + ticks (handed earlier) < frame_start h (2 ^ 32) → IsOkAnd r (λ z. Unit {0})) × (frame_start h (2 ^ 32) ≤ frame_start h first + ticks (handed earlier) → RefusedBy 42 r)
Right card h first (account task r) earlier = (1 ≤ task → task ≤ card.count → IsOkAnd r (λ a. (a.0 ≡ given_of card h (handed earlier) (task - 1)) × (a.0 + a.1 ≡ run_time_of card (task - 1)))) × ((1 ≤ task → task ≤ card.count → ⊥) → RefusedBy 43 r)
Right card h first (tally t) earlier = t ≡ (length (handed earlier), switches_of card h 0 [] (handed earlier), busy_ticks (handed earlier))

abbrev pub Told : Card → ℕ → ℕ → List Call → Type 0
Told card h first calls = EachCall (Right card h first) calls

-- The promise: calls, the newest first, on a dispatcher that was started on this card and sheet with the scheduler s and the frame `first`.
pub record Promise {S : Type 0} (m : Local S) (card : Card) (sheet : Sheet) (s : S) (first : ℕ) (calls : List Call) : Type 0 where
  pub h : ℕ
  pub frame : Frame card h
  pub kept : Kept card sheet h first (handed calls)
  pub told : Told card h first calls
  pub last : S
  pub follows : Follows m card sheet h s (handed calls) last

-- the same over an empty placement: nothing is handed out
abbrev pub Bare : Call → List Call → Type 0
Bare (next_slice r) earlier = RefusedBy 41 r
Bare (account task r) earlier = RefusedBy 43 r
Bare (tally t) earlier = t ≡ (0, 0, 0)

abbrev pub Silent : List Call → Type 0
Silent calls = EachCall Bare calls

-- of a dispatcher that was started on the placement p
pub record Promised {S : Type 0} (m : Local S) (p : Placement) (s : S) (first : ℕ) (calls : List Call) : Type 0 where
  pub filled : (card : Card) (sheet : Sheet) → Holds p card sheet → Promise m card sheet s first calls
  pub empty : Empty p → Silent calls
