-- The ticks of one interval, by the wrap-round line, and a chart made of one block after another.
use Rattle.std.proofs.Common.{◌≡◌, ℕ, zero, suc, ◌+◌, ◌*◌, ◌<◌, ◌≤◌, eqb, [], ◌++◌, map, length, take, sum_by, count_by, sym, ap, ◌∙◌, ⊎_elim, add-one, arith}
use native.Mathlib.Nat as law
use Rattle.std.specs.List.{range_with_len, AllByRecursion}
use Rattle.std.proofs.lemmas.List.{length-append, take_all, take-append-le}
use Rattle.std.proofs.lemmas.List.FromFn.{length-map-range_with_len}
use Rattle.std.proofs.ByRecursion.{All-map, All-append}
use Rattle.std.proofs.lemmas.List.Sums.{sum_by-append}
use Rattle.std.proofs.lemmas.Bool.{cases_lt}
use Rattle.chart.specs.Charts.{Row, Chart, part, got, Once}
use Rattle.chart.proofs.Rising.{mono}
use Rattle.chart.specs.Sums.{upto}
use Rattle.chart.proofs.Ranges.{upto_same, upto_grid, sum_by_made}
use Rattle.chart.proofs.Tallies.{hit, all_of}
use Rattle.chart.specs.Laid.{whose}
use Rattle.chart.proofs.Laying.{whose_le, whose_once, stretch_size}
use Rattle.chart.proofs.Parts.{part_front}

-- core c at offset x has the place c * len + x
abbrev pub seats : (ℕ → ℕ) → ℕ → ℕ → ℕ → ℕ → Row
seats s n cores len x = map (λ c. whose s n (c * len + x)) (range_with_len 0 cores)

abbrev pub block : (ℕ → ℕ) → ℕ → ℕ → ℕ → Chart
block s n cores len = map (seats s n cores len) (range_with_len 0 len)

module _ (s : ℕ → ℕ) (n cores len : ℕ) where
  pub length_block : length (block s n cores len) ≡ len
  length_block = length-map-range_with_len (seats s n cores len) 0 len

  -- what holds of every row of seats holds in the block
  all_block : (P : Row → Type 0) → ((x : ℕ) → P (seats s n cores len x)) → AllByRecursion P (block s n cores len)
  all_block P f = All-map P (seats s n cores len) (range_with_len 0 len) (all_of _ f (range_with_len 0 len))

  pub block_cores : AllByRecursion (λ row. length row ≡ cores) (block s n cores len)
  block_cores = all_block _ (λ x. length-map-range_with_len (λ c. whose s n (c * len + x)) 0 cores)

  pub block_named : AllByRecursion (λ row. AllByRecursion (λ task. task ≤ n) row) (block s n cores len)
  block_named = all_block _ (λ x. All-map (λ task. task ≤ n) (λ c. whose s n (c * len + x)) (range_with_len 0 cores) (all_of _ (λ c. whose_le s n (c * len + x)) (range_with_len 0 cores)))

  pub seats_once : ((i : ℕ) → i < n → s i ≤ len) → (x : ℕ) → Once (seats s n cores len x)
  seats_once narrow x zero some = absurd (omega arith)
  seats_once narrow x (suc i) some = omega (arith, sum_by_made (hit (suc i)) (λ c. whose s n (c * len + x)) cores, whose_once s n i len x cores (narrow i))

  pub block_once : ((i : ℕ) → i < n → s i ≤ len) → AllByRecursion Once (block s n cores len)
  block_once narrow = all_block Once (seats_once narrow)

  -- a task gets its share
  pub got_block : (i : ℕ) → i < n → upto s n ≤ cores * len → got (i + 1) (block s n cores len) ≡ s i
  got_block i l room =
      ap (λ (t : ℕ). got t (block s n cores len)) (add-one i)
      ∙ sum_by_made (count_by (eqb (suc i))) (seats s n cores len) len
      ∙ upto_same _ (λ x. upto (λ c. hit (suc i) (whose s n (c * len + x))) cores) len (λ x _. sum_by_made (hit (suc i)) (λ c. whose s n (c * len + x)) cores)
      ∙ upto_grid (λ p. hit (suc i) (whose s n p)) len cores
      ∙ stretch_size s n i (cores * len) l room

-- the first n blocks, end to end
abbrev pub charts : (ℕ → Chart) → ℕ → Chart
charts f zero = []
charts f (suc n) = charts f n ++ f n

pub all_charts : (P : Row → Type 0) (f : ℕ → Chart) (n : ℕ) → ((k : ℕ) → k < n → AllByRecursion P (f k)) → AllByRecursion P (charts f n)
all_charts P f zero each = tt
all_charts P f (suc n) each = All-append P (charts f n) (f n) (all_charts P f n (λ k l. each k (omega arith))) (each n (omega arith))

module _ (f : ℕ → Chart) (b : ℕ → ℕ) (start : b 0 ≡ 0) where
  pub length_charts : (n : ℕ) → ((k : ℕ) → k < n → b k + length (f k) ≡ b (suc k)) → length (charts f n) ≡ b n
  length_charts zero each = sym start
  length_charts (suc n) each = omega (arith, length-append (charts f n) (f n), length_charts n (λ k l. each k (omega arith)), each n (omega arith))

  rises : (n k : ℕ) → ((k : ℕ) → k < n → b k + length (f k) ≡ b (suc k)) → k ≤ n → b k ≤ b n
  rises n k each l = mono b n (λ j m. omega (arith, each j m)) k n l (law.le_refl n)

  pub front_charts : (n k : ℕ) → ((k : ℕ) → k < n → b k + length (f k) ≡ b (suc k)) → k ≤ n → take (b k) (charts f n) ≡ charts f k
  front_charts zero k each l = let e : 0 ≡ k = omega arith in take_all (b k) [] (omega arith) ∙ ap (charts f) e
  front_charts (suc n) k each l = ⊎_elim
      (λ less. let before : (j : ℕ) → j < n → b j + length (f j) ≡ b (suc j) = λ j m. each j (omega arith) in
      take-append-le (b k) (charts f n) (f n) (omega (arith, length_charts n before, rises n k before (omega arith))) ∙ front_charts n k before (omega arith))
      (λ all. let e : suc n ≡ k = omega arith in take_all (b k) (charts f (suc n)) (omega (arith, length_charts (suc n) each, ap b e)) ∙ ap (charts f) e)
      (cases_lt k (suc n))

  -- between two bounds stands the block
  pub part_charts : (g : Row → ℕ) (n k : ℕ) → ((k : ℕ) → k < n → b k + length (f k) ≡ b (suc k)) → k < n → sum_by g (part (b k) (b (suc k)) (charts f n)) ≡ sum_by g (f k)
  part_charts g n k each l =
      omega (arith, each k l, part_front g (charts f n) (b k) (b (suc k)) (omega (arith, each k l)), ap (sum_by g) (front_charts n k each (omega arith)), ap (sum_by g) (front_charts n (suc k) each l), sum_by-append g (charts f k) (f k))
