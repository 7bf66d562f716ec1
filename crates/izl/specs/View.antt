-- The tables as a state of the rule, and a passage by its kind.
use Rattle.std.specs.Prelude.{◌≡◌, ℕ, ◌-◌, ◌<◌, ◌≤◌, cond, List, [], ◌∷◌, length, nat_le, slice_set, Option, Some, None, MatchOption}
use Rattle.izl_rule.specs.declared.Running.{Running}
use Rattle.izl_rule.specs.Rule.{State, take_over, refill, leaves, passed, passage}
use Rattle.izl.specs.declared.tables.Tables.{Tables}
use Rattle.izl.specs.declared.tables.Kind.{Kind}
use Rattle.izl.specs.declared.tables.Kind.TheVariants.{TakeOver, Refill, Leave, Rest}

abbrev pub view : Tables → State
view t = record { width = t.width; left = t.left; running = t.running.items; waiting = t.waiting.items; taken = t.taken.items }

-- How long the next passage takes and what happens at its end, by the amounts on the first core and of the last waiting task, if there are such, and R.
abbrev pub passage_by : Option ℕ → Option ℕ → ℕ → ℕ × Kind
passage_by (Some f) (Some g) r = cond (nat_le (r - g) f) (r - g, TakeOver) (f, Refill)
passage_by (Some f) None r = (f, Leave)
passage_by None g r = (r, Rest)

-- an amount n of one of a queue, or none where the queue is empty
abbrev pub Amount : Option ℕ → {X : Type 0} → List X → ℕ → Type 0
Amount a xs n = MatchOption a (length xs ≡ 0) (λ m. (0 < length xs) × (m ≡ n))

-- what happens to the queues at its end
abbrev pub turned : Kind → State → State
turned TakeOver s = take_over s
turned Refill s = refill s
turned Leave s = leaves s
turned Rest s = s

-- what that needs
abbrev pub Can : Kind → State → Type 0
Can TakeOver s = (1 ≤ length s.running) × (1 ≤ length s.waiting) × (length s.taken < 16)
Can Refill s = (1 ≤ length s.running) × (length s.running ≤ 16)
Can Leave s = 1 ≤ length s.running
Can Rest s = Unit {0}

-- the next passage takes the time p.0, and p.1 happens at its end
pub record Passes (s : State) (p : ℕ × Kind) : Type 0 where
  pub time : p.0 ≡ (passage s).0
  pub does : (passage s).1 ≡ turned p.1 (passed p.0 s)
  pub able : Can p.1 s

-- the tasks of cores written over seats, from the last to the first
abbrev pub seated_over : List ℕ → List Running → List ℕ
seated_over seats [] = seats
seated_over seats (r ∷ rs) = slice_set (seated_over seats rs) r.core r.task
