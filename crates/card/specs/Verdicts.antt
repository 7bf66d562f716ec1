-- The judgement of a card: the first check that fails, by its number and place; number 0 where none does.
use Rattle.std.specs.Prelude.{ℕ, zero, suc, ◌+◌, ◌-◌, ◌*◌, ◌/◌, ◌%◌, Bool, cond, ◌&&◌, ◌||◌, List, [], ◌∷◌, length, ◌==◌, nat_le, nat_lt}
use Rattle.card.specs.declared.types.Card.{Card}
use Rattle.card.specs.declared.types.Task.{Task}
use Rattle.card.specs.Cards.{tasks_of, boundaries, begins, period_of, opens, closes}

-- number and place
abbrev pub Judged : Type 0
Judged = ℕ × ℕ × ℕ

abbrev pub fine : Judged
fine = (0, 0, 0)

-- this judgement, or where it is fine the next
abbrev pub or_else : Judged → Judged → Judged
or_else j k = cond (j.0 == 0) k j

-- the first that is not fine
abbrev pub each : (ℕ → Judged) → List ℕ → Judged
each f [] = fine
each f (k ∷ ks) = or_else (f k) (each f ks)

-- the greatest common divisor, by Euclid in at most n turns
abbrev pub gcd_in : ℕ → ℕ → ℕ → ℕ
gcd_in zero a b = a
gcd_in (suc n) a b = cond (b == 0) a (gcd_in n b (a % b))

abbrev pub lcm : ℕ → ℕ → ℕ
lcm a b = a / gcd_in (b + 1) a b * b

-- the least common multiple of h and the periods
abbrev pub lcm_with : ℕ → List Task → ℕ
lcm_with h [] = h
lcm_with h (t ∷ ts) = lcm_with (lcm h t.period) ts

abbrev pub frame_of : List Task → ℕ
frame_of ts = lcm_with 1 ts

abbrev pub outside : ℕ → ℕ → ℕ → Bool
outside low high x = nat_lt x low || nat_lt high x

-- task i, from 1, behind tasks whose common multiple is h
abbrev pub judged_task : ℕ → ℕ → Task → Judged
judged_task h i t = cond (outside 1 1000000 t.period) (11, i, 0) (cond (outside 1 t.period t.run_time) (12, i, 0) (cond (nat_lt 1000000 (lcm h t.period)) (13, i, 0) fine))

abbrev pub judged_tasks : ℕ → ℕ → List Task → Judged
judged_tasks h i [] = fine
judged_tasks h i (t ∷ ts) = or_else (judged_task h i t) (judged_tasks (lcm h t.period) (i + 1) ts)

-- every task, then the number of the intervals
abbrev pub judged_card : Card → Judged
judged_card card = or_else (judged_tasks 1 1 (tasks_of card)) (cond (nat_lt 128 (length (boundaries card (frame_of (tasks_of card))))) (14, 0, 0) fine)

-- the job of task i whose window holds a tick of the frame
abbrev pub job_at : Card → ℕ → ℕ → ℕ
job_at card i tick = tick / period_of card i

-- the window of a task in an interval, both counted from 1; 0 and 0 for an unlawful card, or a task or interval that it lacks
abbrev pub window_of : Card → ℕ → ℕ → ℕ × ℕ
window_of card task k =
    let h : ℕ = frame_of (tasks_of card) in
    let j : ℕ = job_at card (task - 1) (begins card h (k - 1)) in
    cond ((judged_card card).0 == 0 && (nat_le 1 task && nat_le task card.count) && (nat_le 1 k && nat_le k (length (boundaries card h)))) (opens card (task - 1) j, closes card (task - 1) j) (0, 0)
