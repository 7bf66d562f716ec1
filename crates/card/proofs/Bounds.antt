-- The boundaries of a card rise from 0 to the frame's end, and no release stands between two of them.
use Rattle.std.proofs.Common.{◌≡◌, ℕ, zero, suc, ◌*◌, ◌%◌, ◌<◌, ◌≤◌, Bool, true, List, [], ◌∷◌, length, get_or, refl, ap, ◌∙◌, subst, ⊎_elim, arith}
use native.Mathlib.Nat as law
use Rattle.std.proofs.lemmas.List.{get_or_push, get_or_past}
use Rattle.std.proofs.lemmas.Bool.{cases_lt, or_left, or_right, eq-eqb}
use Rattle.card.specs.declared.types.Card.{Card}
use Rattle.card.specs.declared.types.Task.{Task}
use Rattle.card.specs.Cards.{Frame, tasks_of, nobody, period_of, divides, released, boundaries, begins}
use Rattle.chart.proofs.Marks.{Clear, front, step}

-- b has n steps from 0 to h, and no number that passes stands between two
pub record Marked (p : ℕ → Bool) (h n : ℕ) (b : ℕ → ℕ) : Type 0 where
  pub start : b 0 ≡ 0
  pub end : b n ≡ h
  pub rise : (k : ℕ) → k < n → b k < b (suc k)
  pub passes : (k : ℕ) → k < n → p (b k) ≡ true
  pub clear : (k : ℕ) → k < n → Clear p (suc (b k)) (b (suc k))

-- the interval that holds x
pub interval_of : {p : ℕ → Bool} {h n : ℕ} {b : ℕ → ℕ} → Marked p h n b → (m x : ℕ) → m ≤ n → x < b m → (k : ℕ) × (k < m) × (b k ≤ x) × (x < b (suc k))
interval_of t zero x l less = absurd (omega (arith, t.start))
interval_of {b = b} t (suc m) x l less = ⊎_elim
    (λ before. let r = interval_of t m x (omega arith) before in (r.0, omega (arith, r.1), r.2, r.3))
    (λ here. (m, omega arith, here, less))
    (cases_lt x (b m))

-- each number below the end that passes is a mark
pub mark_at : {p : ℕ → Bool} {h n : ℕ} {b : ℕ → ℕ} → Marked p h n b → (x : ℕ) → x < h → p x ≡ true → (k : ℕ) × (k < n) × (b k ≡ x)
mark_at {n = n} {b = b} t x l px =
    let r = interval_of t n x (law.le_refl n) (omega (arith, t.end)) in
    (r.0, r.1, ⊎_elim (λ past. absurd (t.clear r.0 r.1 x past r.3 px)) (λ same. omega (arith, r.2)) (cases_lt (b r.0) x))

-- and each up to the end is one, or the end
pub mark_upto : {p : ℕ → Bool} {h n : ℕ} {b : ℕ → ℕ} → Marked p h n b → (x : ℕ) → x ≤ h → p x ≡ true → (k : ℕ) × (k ≤ n) × (b k ≡ x)
mark_upto {h = h} {n = n} t x l px = ⊎_elim (λ less. let m = mark_at t x less px in (m.0, omega (arith, m.1), m.2)) (λ all. (n, law.le_refl n, omega (arith, t.end))) (cases_lt x h)

-- a frame has no period of 0
pub period_some : (card : Card) (h : ℕ) → Frame card h → (i : ℕ) → i < card.count → 1 ≤ period_of card i
period_some card h f i l = ⊎_elim (λ z. let e : h % period_of card i ≡ h = ap (λ (t : ℕ). h % t) z ∙ law.mod-zero h in omega (arith, e, f.common i l, f.some)) (λ some. some) (law.eq-zero-or-pos (period_of card i))

-- a task with a period stands in the list
pub task_there : (card : Card) (i : ℕ) → 1 ≤ period_of card i → i < length (tasks_of card)
task_there card i some = ⊎_elim (λ l. l) (λ past. let e : period_of card i ≡ 0 = ap (λ (t : Task). t.period) (get_or_past (tasks_of card) i nobody past) in omega arith) (cases_lt i (length (tasks_of card)))

pub released_at : (ts : List Task) (i x : ℕ) → i < length ts → x % (get_or ts i nobody).period ≡ 0 → released ts x ≡ true
released_at [] i x l e = absurd (omega arith)
released_at (t ∷ ts) zero x l e = or_left (divides t.period x) (released ts x) (eq-eqb (x % t.period) 0 e)
released_at (t ∷ ts) (suc i) x l e = or_right (divides t.period x) (released ts x) (released_at ts i x (omega arith) e)

-- a task's own releases are boundaries
pub release : (card : Card) (i j : ℕ) → 1 ≤ period_of card i → released (tasks_of card) (j * period_of card i) ≡ true
release card i j some = released_at (tasks_of card) i (j * period_of card i) (task_there card i some) (law.mul-mod_left j (period_of card i))

pub marked : (card : Card) (h : ℕ) → released (tasks_of card) 0 ≡ true → Marked (released (tasks_of card)) h (length (boundaries card h)) (begins card h)
marked card h first = let p : ℕ → Bool = released (tasks_of card) in let f = front p h 0 h (law.zero-add h) in record {
  start = ⊎_elim (λ l. absurd (f.clear 0 (omega arith) l first)) (λ l. omega arith) (cases_lt 0 (begins card h 0));
  end = get_or_push (boundaries card h) h h (length (boundaries card h)) refl;
  rise = λ k l. (step p h 0 h k (law.zero-add h) l).rise;
  passes = λ k l. (step p h 0 h k (law.zero-add h) l).passes;
  clear = λ k l. (step p h 0 h k (law.zero-add h) l).clear;
}

pub frame_marked : (card : Card) (h : ℕ) → Frame card h → Marked (released (tasks_of card)) h (length (boundaries card h)) (begins card h)
frame_marked card h f = marked card h (subst (λ x. released (tasks_of card) x ≡ true) (law.zero-mul (period_of card 0)) (release card 0 0 (period_some card h f 0 card.some_tasks)))
