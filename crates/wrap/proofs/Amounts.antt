-- What is left of a task: its places at the ticks to come.
use Rattle.std.proofs.Common.{◌≡◌, ℕ, zero, suc, ◌+◌, ◌-◌, ◌*◌, ◌<◌, ◌≤◌, min, max, eqb, ltb, List, length, count_by, sym, ap, ◌∙◌, ⊎_elim, arith}
use native.Mathlib.Nat as law
use Rattle.std.proofs.lemmas.Bool.{cases_lt, cond-true, cond-false, lt-ltb, le-ltb}
use Rattle.chart.specs.Sums.{upto}
use Rattle.chart.proofs.Ranges.{upto_same, upto_none, upto_add, upto_swap, upto_grid, between, inside_low, inside_in, inside_high, sum_by_made}
use Rattle.chart.proofs.Tallies.{hit, hit_no}
use Rattle.chart.proofs.Laying.{whose_le, whose_once, hit_stretch, stretch_size}
use Rattle.wrap.specs.Wrap.{share_at, line_end, task_at, seat_at, seats_at, cores_with, meets}

upto_flat : (f : ℕ → ℕ) (n a : ℕ) → ((k : ℕ) → k < n → f k ≡ a) → upto f n ≡ a * n
upto_flat f zero a e = omega arith
upto_flat f (suc n) a e = omega (arith, upto_flat f n a (λ k l. e k (omega arith)), e n (omega arith), law.mul-suc a n)

upto_ones : (f : ℕ → ℕ) (n : ℕ) → ((k : ℕ) → f k ≤ 1) → upto f n ≤ n
upto_ones f zero e = omega arith
upto_ones f (suc n) e = omega (arith, upto_ones f n e, e n)

module _ (shares : List ℕ) (len : ℕ) where
  -- the seats of a task are the cores that have it
  pub seats_count : (width x task : ℕ) → width ≤ 16 → 1 ≤ task → count_by (eqb task) (seats_at shares width len x) ≡ cores_with shares len task x width
  seats_count width x task l some =
      let all : width + (16 - width) ≡ 16 = omega arith in
      let f : ℕ → ℕ = λ c. hit task (seat_at shares width len x c) in
      let front = upto_same f (λ c. hit task (task_at shares (c * len + x))) width (λ c h. ap (hit task) (cond-true (ltb c width) (task_at shares (c * len + x)) 0 (lt-ltb c width h))) in
      let idle = upto_same (λ c. f (width + c)) (λ _. 0) (16 - width) (λ c h. hit_no task (seat_at shares width len x (width + c)) (λ e. omega (arith, e, cond-false (ltb (width + c) width) (task_at shares ((width + c) * len + x)) 0 (le-ltb (width + c) width (omega arith))))) in
      omega (arith, sum_by_made (hit task) (seat_at shares width len x) 16, ap (upto f) all, upto_add f width (16 - width), front, idle, upto_none (16 - width))

  pub cores_one : (i y n : ℕ) → ((i : ℕ) → share_at shares i ≤ len) → cores_with shares len (suc i) y n ≤ 1
  cores_one i y n narrow = whose_once (share_at shares) (length shares) i len y n (λ _. narrow i)

  -- no core has a task behind the list
  pub cores_none : (task y n : ℕ) → length shares < task → cores_with shares len task y n ≡ 0
  cores_none task y n l = upto_same _ (λ _. 0) n (λ c _. hit_no task (task_at shares (c * len + y)) (λ e. omega (arith, e, whose_le (share_at shares) (length shares) (c * len + y)))) ∙ upto_none n

  -- a slice takes its length from the tasks that it seats
  pub slice_takes : (width task x t rest : ℕ) → ((k : ℕ) → k < t → cores_with shares len task (x + k) width ≡ cores_with shares len task x width) →
      upto (λ k. cores_with shares len task (x + k) width) (t + rest) ≡ upto (λ k. cores_with shares len task (x + t + k) width) rest + cores_with shares len task x width * t
  slice_takes width task x t rest steady = omega (
    arith,
    upto_add (λ k. cores_with shares len task (x + k) width) t rest,
    upto_flat (λ k. cores_with shares len task (x + k) width) t (cores_with shares len task x width) steady,
    upto_same (λ k. cores_with shares len task (x + (t + k)) width) (λ k. cores_with shares len task (x + t + k) width) rest (λ k _. ap (λ (y : ℕ). cores_with shares len task y width) (sym (law.add_assoc x t k))),
  )

  pub amount_fits : (width i x rest : ℕ) → ((i : ℕ) → share_at shares i ≤ len) → upto (λ k. cores_with shares len (suc i) (x + k) width) rest ≤ rest
  amount_fits width i x rest narrow = upto_ones (λ k. cores_with shares len (suc i) (x + k) width) rest (λ k. cores_one i (x + k) width narrow)

  -- from the first tick on it is the whole share
  pub amount_whole : (width i x : ℕ) → x ≡ 0 → i < length shares → line_end shares (length shares) ≤ width * len → upto (λ k. cores_with shares len (suc i) (x + k) width) len ≡ share_at shares i
  amount_whole width i x start l room =
      upto_same (λ k. cores_with shares len (suc i) (x + k) width) (λ k. cores_with shares len (suc i) k width) len (λ k _. ap (λ (y : ℕ). cores_with shares len (suc i) y width) (omega arith))
      ∙ upto_grid (λ p. hit (suc i) (task_at shares p)) len width
      ∙ stretch_size (share_at shares) (length shares) i (width * len) l room

  -- on one core it is what its stretch and the ticks to come have in common
  on_core : (a b q rest : ℕ) → a ≤ b → upto (λ k. between a b (q + k)) rest ≡ min b (q + rest) - max a q
  on_core a b q zero l = omega arith
  on_core a b q (suc rest) l = let e = on_core a b q rest l in ⊎_elim
      (λ low. omega (arith, e, inside_low a b (q + rest) 1 low))
      (λ above. ⊎_elim (λ here. omega (arith, e, inside_in a b (q + rest) 1 above here)) (λ high. omega (arith, e, inside_high a b (q + rest) 1 high)) (cases_lt (q + rest) b))
      (cases_lt (q + rest) a)

  pub amount_meets : (width i x rest : ℕ) → i < length shares → x + rest ≡ len → upto (λ k. cores_with shares len (suc i) (x + k) width) rest ≡ meets (line_end shares i) (line_end shares (suc i)) len x width
  amount_meets width i x rest l whole =
      upto_swap (λ k c. hit (suc i) (task_at shares (c * len + (x + k)))) width rest
      ∙ upto_same _ _ width (λ c _.
      let a : ℕ = line_end shares i in
      let b : ℕ = line_end shares (suc i) in
      upto_same (λ k. hit (suc i) (task_at shares (c * len + (x + k)))) (λ k. between a b (c * len + x + k)) rest (λ k _. hit_stretch (share_at shares) (length shares) (c * len + (x + k)) i l ∙ ap (between a b) (sym (law.add_assoc (c * len) x k)))
      ∙ on_core a b (c * len + x) rest (omega arith)
      ∙ ap (λ (q : ℕ). min b q - max a (c * len + x)) (omega arith))
