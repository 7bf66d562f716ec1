-- Handing out the choice: the slice by the line, and what it leaves.
use Rattle.std.proofs.Common.{◌≡◌, ℕ, zero, suc, ◌+◌, ◌-◌, ◌*◌, ◌<◌, ◌≤◌, true, cond, ltb, sym, refl, ap, ◌∙◌, ⊎_elim, arith}
use Rattle.std.proofs.lemmas.Bool.{cases_lt, cond-true, cond-false, lt-ltb, le-ltb}
use Rattle.std.proofs.lemmas.List.{get_or_past}
use Rattle.std.proofs.lemmas.List.FromFn.{get_or-map-range_with_len, length-map-range_with_len}
use Rattle.chart.specs.Sums.{upto}
use Rattle.chart.proofs.Ranges.{upto_same}
use Rattle.chart.proofs.Tallies.{hit}
use Rattle.local.specs.Meaning.{Handed, amount_of, seat, seated}
use Rattle.wrap.specs.Wrap.{Interval, Laid, task_at, cut, next_cut, seat_at, cores_with, offset, amount, choice, allowance, after}
use Rattle.wrap.proofs.Cuts.{Least, next_least, next_within, core_steady}
use Rattle.wrap.proofs.Amounts.{seats_count, cores_one, cores_none, slice_takes, amount_fits}
use Rattle.wrap.proofs.Slices.{some_cut, fewer_cuts}
use Rattle.wrap.proofs.Meant.{meant, Good, amount_told, amount_past}

module _ (v : Interval) (g : Good v) (some : 1 ≤ v.left) where
  abbrev x : ℕ
  x = offset v

  abbrev t : ℕ
  t = (choice v).length

  abbrev rest : ℕ
  rest = v.left - t

  early : x < v.len
  early = omega (arith, g.within)

  least : Least (cut v.shares v.len) x (next_cut v.shares v.len x)
  least = next_least v.shares v.len x early

  reaches : x + t ≡ next_cut v.shares v.len x
  reaches = omega (arith, least.above)

  t_some : 1 ≤ t
  t_some = omega (arith, least.above)

  pub t_within : t ≤ v.left
  t_within = omega (arith, reaches, next_within v.shares v.len x early, g.within)

  split : v.left ≡ t + rest
  split = omega (arith, t_within)

  moved : offset (after v) ≡ x + t
  moved = omega (arith, t_within, g.within)

  ends : cut v.shares v.len (x + t) ≡ true
  ends = ap (cut v.shares v.len) reaches ∙ least.passes

  core_keeps : (c y : ℕ) → x ≤ y → y < x + t → task_at v.shares (c * v.len + x) ≡ task_at v.shares (c * v.len + y)
  core_keeps c y a u = core_steady v.shares v.len c x y a (omega (arith, t_within, g.within)) (λ z h k q. least.clear z h (omega (arith, reaches)) q)

  pub laid : Laid v (choice v)
  laid = record {
    seats = λ c y l a u.
        get_or-map-range_with_len (seat_at v.shares v.width v.len x) 0 16 c c 0 (omega (arith, g.wide)) (omega arith)
        ∙ cond-true (ltb c v.width) (task_at v.shares (c * v.len + x)) 0 (lt-ltb c v.width l)
        ∙ core_keeps c y a u;
    ends = ends;
    uncut = λ y a u q. least.clear y a (omega (arith, reaches)) q;
  }

  idle : (c : ℕ) → v.width ≤ c → seat (choice v) c ≡ 0
  idle c l = ⊎_elim
      (λ h. get_or-map-range_with_len (seat_at v.shares v.width v.len x) 0 16 c c 0 h (omega arith) ∙ cond-false (ltb c v.width) (task_at v.shares (c * v.len + x)) 0 (le-ltb c v.width l))
      (λ h. get_or_past (choice v).seats c 0 (omega (arith, length-map-range_with_len (seat_at v.shares v.width v.len x) 0 16)))
      (cases_lt c 16)

  seated_is : (task : ℕ) → 1 ≤ task → seated (choice v) task ≡ cores_with v.shares v.len task x v.width
  seated_is task s = seats_count v.shares v.len v.width x task g.wide s

  once : (task : ℕ) → 1 ≤ task → seated (choice v) task ≤ 1
  once zero s = absurd (omega arith)
  once (suc i) s = omega (arith, seated_is (suc i) s, cores_one v.shares v.len i x v.width g.narrow)

  after_is : (task : ℕ) → amount (after v) task ≡ upto (λ k. cores_with v.shares v.len task (x + t + k) v.width) rest
  after_is task = ap (λ (y : ℕ). upto (λ k. cores_with v.shares v.len task (y + k) v.width) rest) moved

  amounts : (task : ℕ) → 1 ≤ task → amount_of meant (after v) task + seated (choice v) task * t ≡ amount_of meant v task
  amounts task s =
      let n : ℕ = cores_with v.shares v.len task x v.width in
      let product : seated (choice v) task * t ≡ n * t = ap (λ (m : ℕ). m * t) (seated_is task s) in
      ⊎_elim
      (λ past. let none : n * t ≡ 0 * t = ap (λ (m : ℕ). m * t) (cores_none v.shares v.len task x v.width (omega (arith, g.size))) in
      omega (arith, amount_past v task past, amount_past (after v) task past, product, none))
      (λ l. omega (
        arith,
        amount_told v task s l,
        amount_told (after v) task s l,
        product,
        after_is task,
        ap (upto (λ k. cores_with v.shares v.len task (x + k) v.width)) split,
        slice_takes v.shares v.len v.width task x t rest (λ k h. upto_same _ _ v.width (λ c _. ap (hit task) (sym (core_keeps c (x + k) (omega arith) (omega arith))))),
      ))
      (cases_lt 32 task)

  enough : (task : ℕ) → 1 ≤ task → 1 ≤ seated (choice v) task → t ≤ amount_of meant v task
  enough task s h = let one : seated (choice v) task * t ≡ 1 * t = ap (λ (m : ℕ). m * t) (omega (arith, once task s)) in omega (arith, amounts task s, one)

  fits : (task : ℕ) → amount_of meant (after v) task ≤ rest
  fits zero = omega arith
  fits (suc i) = ⊎_elim
      (λ past. omega (arith, amount_past (after v) (suc i) past))
      (λ l. omega (arith, amount_told (after v) (suc i) (omega arith) l, amount_fits v.shares v.len v.width i (offset (after v)) rest g.narrow))
      (cases_lt 32 (suc i))

  fewer : allowance (after v) < allowance v
  fewer = omega (
    arith,
    ap (λ (y : ℕ). upto (λ k. cond (cut v.shares v.len (y + 1 + k)) 1 0) rest) moved,
    ap (upto (λ k. cond (cut v.shares v.len (x + 1 + k)) 1 0)) split,
    fewer_cuts v.shares v.len x t rest t_some ends,
  )

  pub handed : Handed meant v (choice v) (after v)
  handed = record {
    chosen = refl;
    some = t_some;
    within = t_within;
    above_idle = idle;
    once = once;
    enough = enough;
    same_width = refl;
    ticks = omega (arith, t_within);
    amounts = amounts;
    fits = fits;
    fewer = fewer;
    some_left = λ l. some_cut v.shares v.len (offset (after v)) rest (omega (arith, moved, split, g.within)) l;
    goes = refl;
  }
