-- What slices in a row come to: their ticks, switches, busy ticks, and what a task was given.
use Rattle.std.specs.Prelude.{ℕ, ◌+◌, ◌-◌, ◌*◌, ◌/◌, ◌%◌, Bool, cond, not, ◌&&◌, List, [], ◌∷◌, ◌++◌, length, drop, replicate, sum_by, ◌==◌, count_ones, nat_le, nat_lt, slice_index}
use Rattle.chart.specs.Charts.{Row, Chart, got}
use Rattle.card.specs.declared.types.Card.{Card}
use Rattle.card.specs.declared.types.Task.{Task}
use Rattle.card.specs.Cards.{period_of, boundary, tasks_of}
use Rattle.dispatch.specs.declared.Stamped.{Stamped}

-- the tick at which a frame of length h begins, counted from that of frame 0
abbrev pub frame_start : ℕ → ℕ → ℕ
frame_start h frame = frame * h

-- the stamp of a tick of a frame
abbrev pub stamp_of : ℕ → ℕ → ℕ → ℕ
stamp_of h frame tick = frame_start h frame + tick

-- the slices end to end, tick by tick
abbrev pub chart : List Stamped → Chart
chart [] = []
chart (z ∷ zs) = replicate z.slice.length z.slice.seats ++ chart zs

-- how many ticks they are
abbrev pub ticks : List Stamped → ℕ
ticks zs = sum_by (λ z. z.slice.length) zs

-- the tick of the run at which each slice begins, counted on from a
abbrev pub starts : ℕ → List Stamped → List ℕ
starts a [] = []
starts a (z ∷ zs) = a ∷ starts (a + z.slice.length) zs

abbrev pub from_to : ℕ → ℕ → ℕ → Bool
from_to a b tick = nat_le a tick && nat_lt tick b

-- a core's task before, and its task now: whether it is seated with a task that it did not have
abbrev pub switches_core : ℕ × ℕ → Bool
switches_core p = not (p.1 == 0) && not (p.1 == p.0)

-- cores seated with a task that they did not have before
abbrev pub changed : Row → Row → ℕ
changed before [] = 0
changed before (x ∷ xs) = cond (not (x == 0) && not (x == slice_index before 0)) 1 0 + changed (drop 1 before) xs

-- switches: in an interval's first slice every seated core counts
abbrev pub switches_of : Card → ℕ → ℕ → Row → List Stamped → ℕ
switches_of card h tick before [] = 0
switches_of card h tick before (z ∷ zs) = changed (cond (boundary card (tick % h)) [] before) z.slice.seats + switches_of card h (tick + z.slice.length) z.slice.seats zs

-- each slice's length times the ones in its busy mask
abbrev pub busy_ticks : List Stamped → ℕ
busy_ticks zs = sum_by (λ z. z.slice.length * count_ones z.slice.busy) zs

-- the run times of all jobs of a frame
abbrev pub frame_work : Card → ℕ → ℕ
frame_work card h = sum_by (λ (t : Task). h / t.period * t.run_time) (tasks_of card)

-- the tick at which the last slice began
abbrev pub last_start : List Stamped → ℕ
last_start zs = slice_index (starts 0 zs) (length zs - 1)

-- ticks that task i, from 0, was given in the window that holds the last slice
abbrev pub given_of : Card → ℕ → List Stamped → ℕ → ℕ
given_of card h zs i = got (i + 1) (drop (last_start zs - (last_start zs % h) % period_of card i) (chart zs))
