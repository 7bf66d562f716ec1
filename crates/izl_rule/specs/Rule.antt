-- IZL: incremental scheduling with zero laxity. Tasks count from 1; cores count from 0 here, as the seats of a slice do.
use Rattle.std.specs.Prelude.{ℕ, zero, suc, ◌+◌, ◌-◌, Bool, cond, ◌&&◌, ◌||◌, List, [], ◌∷◌, ◌++◌, map, length, take, drop, replicate, sum_by, ◌==◌, nat_le, nat_lt, slice_index_or, slice_set, refl}
use Rattle.local.specs.Masks.{mask}
use Rattle.local.specs.declared.slice.Slice.{Slice}
use Rattle.izl_rule.specs.declared.Running.{Running}
use Rattle.izl_rule.specs.declared.Waiting.{Waiting}

pub record State : Type 0 where
  -- M, the cores of the interval
  pub width : ℕ
  -- R, the ticks left
  pub left : ℕ
  -- the core queue and the waiting queue, each from its first to its last
  pub running : List Running
  pub waiting : List Waiting
  -- the cores that left the core queue by a take over
  pub taken : List Running

abbrev pub nobody : Running
nobody = record { core = 0; amount = 0; task = 0 }

abbrev pub nothing : Waiting
nothing = record { amount = 0; task = 0 }

-- all but the last
abbrev pub front : {X : Type 0} → List X → List X
front xs = take (length xs - 1) xs

abbrev pub first_core : State → Running
first_core s = slice_index_or s.running 0 nobody

abbrev pub last_core : State → Running
last_core s = slice_index_or s.running (length s.running - 1) nobody

abbrev pub first_waiting : State → Waiting
first_waiting s = slice_index_or s.waiting 0 nothing

abbrev pub last_waiting : State → Waiting
last_waiting s = slice_index_or s.waiting (length s.waiting - 1) nothing

-- whether a task waits, and whether a core is in the core queue
abbrev pub waits : State → Bool
waits s = nat_lt 0 (length s.waiting)

abbrev pub runs : State → Bool
runs s = nat_lt 0 (length s.running)

-- time t passes
abbrev pub lowered : ℕ → Running → Running
lowered t r = record { core = r.core; amount = r.amount - t; task = r.task }

abbrev pub passed : ℕ → State → State
passed t s = record { width = s.width; left = s.left - t; running = map (lowered t) s.running; waiting = s.waiting; taken = map (lowered t) s.taken }

abbrev pub on : ℕ → Waiting → Running
on c w = record { core = c; amount = w.amount; task = w.task }

-- a core takes the first waiting task and joins the end of the core queue; with nothing to take it is idle
abbrev pub takes : ℕ → State → State
takes c s = cond (waits s) (record { width = s.width; left = s.left; running = s.running ++ (on c (first_waiting s) ∷ []); waiting = drop 1 s.waiting; taken = s.taken }) s

-- the first core leaves the core queue
abbrev pub leaves : State → State
leaves s = record { width = s.width; left = s.left; running = drop 1 s.running; waiting = s.waiting; taken = s.taken }

-- the task of a core goes to the head of the waiting queue; an ended one is not put back
abbrev pub put_back : Running → List Waiting → List Waiting
put_back r ws = cond (r.amount == 0) ws (record { amount = r.amount; task = r.task } ∷ ws)

-- take over: the last core leaves the core queue, its task is put back, and the formerly last waiting task takes that core
abbrev pub take_over : State → State
take_over s = record { width = s.width; left = s.left; running = front s.running; waiting = put_back (last_core s) (front s.waiting); taken = s.taken ++ (on (last_core s).core (last_waiting s) ∷ []) }

-- refill: the first core takes the first waiting task and goes to the end of the core queue
abbrev pub refill : State → State
refill s = takes (first_core s).core (leaves s)

-- the amount on the first core of the core queue, and that of the last waiting task
abbrev pub F : State → ℕ
F s = (first_core s).amount

abbrev pub G : State → ℕ
G s = (last_waiting s).amount

-- a passage: how much time passes, and what there is then; its kind is chosen before the time passes
abbrev pub passage : State → ℕ × State
passage s = cond (waits s)
    (cond (nat_le (s.left - G s) (F s)) (s.left - G s, take_over (passed (s.left - G s) s)) (F s, refill (passed (F s) s)))
    (cond (runs s) (F s, leaves (passed (F s) s)) (s.left, passed s.left s))

-- passages of no time, at most n, until one takes time; each leaves fewer tasks in the queues
abbrev pub ready : ℕ → State → State
ready zero s = s
ready (suc n) s = cond ((passage s).0 == 0) (ready n (passage s).1) s

abbrev pub settled : State → State
settled s = ready (length s.running + length s.waiting) s

-- the shares above zero, ordered by amount, then task
abbrev pub before : Waiting → Waiting → Bool
before x y = nat_lt x.amount y.amount || (x.amount == y.amount && nat_lt x.task y.task)

abbrev pub insert : Waiting → List Waiting → List Waiting
insert x [] = x ∷ []
insert x (y ∷ ys) = cond (before y x) (y ∷ insert x ys) (x ∷ (y ∷ ys))

abbrev pub ordered : ℕ → List Waiting → List ℕ → List Waiting
ordered task ws [] = ws
ordered task ws (x ∷ xs) = ordered (task + 1) (cond (x == 0) ws (insert (record { amount = x; task = task }) ws)) xs

-- n cores from c on take in turn
abbrev pub filled : ℕ → ℕ → State → State
filled c zero s = s
filled c (suc n) s = filled (c + 1) n (takes c s)

abbrev pub load : ℕ → ℕ → List ℕ → State
load width len shares = settled (filled 0 width (record { width = width; left = len; running = []; waiting = ordered 1 [] shares; taken = [] }))

-- the task on each core
abbrev pub row : List Running → List ℕ
row [] = replicate 16 0
row (r ∷ rs) = slice_set (row rs) r.core r.task

abbrev pub seats : State → List ℕ
seats s = row (s.running ++ s.taken)

-- the slice to come, and what there is behind it
abbrev pub choice : State → Slice
choice s = record { length = (passage s).0; seats = seats s; busy = mask (seats s); masked = refl }

abbrev pub after : State → State
after s = settled (passage s).1

-- what is left of a task
abbrev pub running_of : ℕ → List Running → ℕ
running_of task = sum_by (λ r. cond (task == r.task) r.amount 0)

abbrev pub waiting_of : ℕ → List Waiting → ℕ
waiting_of task = sum_by (λ w. cond (task == w.task) w.amount 0)

abbrev pub amount : State → ℕ → ℕ
amount s task = running_of task s.running + waiting_of task s.waiting + running_of task s.taken

-- at most so many slices are still to come
abbrev pub allowance : State → ℕ
allowance s = cond (s.left == 0) 0 (1 + (length s.running + length s.waiting))
