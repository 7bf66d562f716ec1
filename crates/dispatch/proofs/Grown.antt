-- Over a whole frame the busy ticks grow by the run times of all its jobs.
use Rattle.std.proofs.Common.{◌≡◌, ℕ, zero, suc, ◌+◌, ◌*◌, ◌/◌, ◌<◌, ◌≤◌, List, [], ◌∷◌, ◌++◌, length, take, replicate, sum_by, sym, ap, ◌∙◌, subst, add-one, arith}
use lib.Count.{ones}
use native.Mathlib.Nat as law
use Rattle.std.proofs.lemmas.List.{append_assoc, length-append, length-take-le, take_all, take_at}
use Rattle.std.proofs.lemmas.List.Sums.{sum_by-cons, sum_by-append}
use Rattle.card.specs.declared.types.Card.{Card}
use Rattle.sheet.specs.declared.types.Sheet.{Sheet}
use Rattle.card.specs.declared.types.Task.{Task}
use Rattle.chart.specs.Charts.{Chart, got}
use Rattle.card.specs.Cards.{begins, period_of, run_time_of, tasks_of, nobody}
use Rattle.dispatch.specs.declared.Stamped.{Stamped}
use Rattle.dispatch.specs.Counts.{chart, ticks, busy_ticks, frame_work}
use Rattle.dispatch.proofs.Charts.{chart_append, length_chart, ticks_append, got_append, sum_by_replicate, count}
use Rattle.dispatch.proofs.Along.{Along, along_front, along_back}
use Rattle.dispatch.proofs.Seats.{ones_busy}
use Rattle.chart.specs.Sums.{upto}
use Rattle.chart.proofs.Ranges.{upto_same, upto_plus, upto_none}
use Rattle.dispatch.proofs.Taken.{upto_mul, sum_by_to, taken_to}
use Rattle.dispatch.proofs.Goods.{Good, total, edge, in_order}
use Rattle.dispatch.proofs.States.{Fine, Sound}
use Rattle.dispatch.proofs.Kepts.{up_to}

-- busy ticks, task by task
pub busy_to : (card : Card) (h : ℕ) (sheet : Sheet) (first a : ℕ) (zs : List Stamped) → Along (Fine card h sheet first) a zs → busy_ticks zs ≡ upto (λ i. got (i + 1) (chart zs)) card.count
busy_to card h sheet first a [] all = sym (upto_none card.count)
busy_to card h sheet first a (z ∷ zs) (fine, all) =
    let n : ℕ = card.count in
    let len : ℕ = z.slice.length in
    let ih = busy_to card h sheet first (a + len) zs all in
    let x = sum_by-cons (λ (z : Stamped). z.slice.length * ones z.slice.busy) z zs in
    let o = ones_busy z ∙ taken_to card.count z.slice.seats fine.named in
    let y : len * ones z.slice.busy ≡ upto (λ i. count (i + 1) z.slice.seats) n * len = ap (λ (k : ℕ). len * k) o ∙ law.mul_comm len (upto (λ i. count (i + 1) z.slice.seats) n) in
    let w = upto_mul (λ i. count (i + 1) z.slice.seats) len n in
    let v = upto_plus (λ i. count (i + 1) z.slice.seats * len) (λ i. got (i + 1) (chart zs)) n in
    let u = upto_same (λ i. got (i + 1) (chart (z ∷ zs))) (λ i. count (i + 1) z.slice.seats * len + got (i + 1) (chart zs)) n (λ i l. got_append (i + 1) (replicate len z.slice.seats) (chart zs) ∙ ap (λ (k : ℕ). k + got (i + 1) (chart zs)) (sum_by_replicate (count (i + 1)) len z.slice.seats)) in
    omega (arith, ih, x, y, w, v, u)

module _ (card : Card) (h : ℕ) (sheet : Sheet) (good : Good card h sheet) where
  -- the shares of a task up to the end of job j
  jobs : (i : ℕ) → i < card.count → (j a : ℕ) → j * period_of card i ≤ h → a ≤ sheet.rows → begins card h a ≡ j * period_of card i → total sheet i a ≡ j * run_time_of card i
  jobs i l zero a le r e =
      let z = law.zero-mul (period_of card i) in
      let b₀ = good.from_0 in
      let q : a ≤ 0 = in_order card h sheet good a 0 r (omega (arith, e, z, b₀)) in
      let v : a ≡ 0 = omega (arith, q) in
      ap (total sheet i) v ∙ sym (law.zero-mul (run_time_of card i))
  jobs i l (suc j) a le r e =
      let x = law.suc-mul j (period_of card i) in
      let y = ap (λ (n : ℕ). n * period_of card i) (add-one j) in
      let short : j * period_of card i ≤ h = omega (arith, x, le) in
      let mark = good.marked i j l short in
      let at = mark.2 in
      let ih = jobs i l j mark.0 short mark.1 at in
      let w = good.whole i j mark.0 a l mark.1 r at (omega (arith, e, y)) in
      let v = law.suc-mul j (run_time_of card i) in
      omega (arith, ih, w, v)

  pub frame_shares : (i : ℕ) → i < card.count → total sheet i sheet.rows ≡ h / period_of card i * run_time_of card i
  frame_shares i l =
      let c = good.frame.common i l in
      let d = law.div-add-mod' h (period_of card i) in
      let t = good.to_end in
      jobs i l (h / period_of card i) sheet.rows (omega (arith, c, d)) (omega arith) (omega (arith, c, d, t))

  pub all_tasks : length (tasks_of card) ≡ card.count
  all_tasks = length-take-le card.count card.tasks (omega (arith, card.table, card.few_tasks))

  pub work_to : frame_work card h ≡ upto (λ i. total sheet i sheet.rows) card.count
  work_to =
      let f : Task → ℕ = λ t. h / t.period * t.run_time in
      let n = all_tasks in
      ap (sum_by (λ (t : Task). h / t.period * t.run_time)) (sym (take_all card.count (tasks_of card) (omega (arith, n)))) ∙ sum_by_to (λ (t : Task). h / t.period * t.run_time) (tasks_of card) nobody card.count (omega (arith, n)) ∙ upto_same (λ i. h / period_of card i * run_time_of card i) (λ i. total sheet i sheet.rows) card.count (λ i l. sym (frame_shares i l))

  module _ (first : ℕ) (zs : List Stamped) (sound : Sound card h sheet first zs) where
    pub grown : (f : ℕ) (early frame later : List Stamped) → zs ≡ early ++ (frame ++ later) → ticks early ≡ f * h → ticks frame ≡ h → busy_ticks (early ++ frame) ≡ busy_ticks early + frame_work card h
    grown f early frame later e t u =
        let all : Along (Fine card h sheet first) 0 (early ++ (frame ++ later)) = subst (Along (Fine card h sheet first) 0) e sound.along in
        let mid : Along (Fine card h sheet first) (0 + ticks early) frame = along_front (Fine card h sheet first) (0 + ticks early) frame later (along_back (Fine card h sheet first) 0 early (frame ++ later) all) in
        let a = sum_by-append (λ (z : Stamped). z.slice.length * ones z.slice.busy) early frame in
        let b = busy_to card h sheet first (0 + ticks early) frame mid in
        let c = upto_same (λ i. got (i + 1) (chart frame)) (λ i. total sheet i sheet.rows) card.count each in
        let d = work_to in
        omega (arith, a, b, c, d)
      where
        split : chart zs ≡ chart early ++ (chart frame ++ chart later)
        split = ap chart e ∙ chart_append early (frame ++ later) ∙ ap (λ (c : Chart). chart early ++ c) (chart_append frame later)

        each : (i : ℕ) → i < card.count → got (i + 1) (chart frame) ≡ total sheet i sheet.rows
        each i l =
            let b₀ = good.from_0 in
            let le = length_chart early in
            let lf = length_chart frame in
            let la = length-append (chart early) (chart frame) in
            let lz : ticks zs ≡ ticks early + ticks (frame ++ later) = ap ticks e ∙ ticks_append early (frame ++ later) in
            let lw = ticks_append frame later in
            let m = law.suc-mul f h in
            let at₀ : length (chart early) ≡ edge card h f 0 = omega (arith, le, t, b₀) in
            let at₁ : length (chart early ++ chart frame) ≡ edge card h (suc f) 0 = omega (arith, le, lf, la, t, u, b₀, m) in
            let g₀ = up_to card h sheet good first zs sound i f 0 l (omega arith) (omega (arith, at₀, le, lz)) in
            let g₁ = up_to card h sheet good first zs sound i (suc f) 0 l (omega arith) (omega (arith, at₁, le, lf, la, lz, lw)) in
            let q₀ : got (i + 1) (take (edge card h f 0) (chart zs)) ≡ got (i + 1) (chart early) = ap (got (i + 1)) (ap (take (edge card h f 0)) split ∙ take_at (chart early) (chart frame ++ chart later) (edge card h f 0) at₀) in
            let q₁ : got (i + 1) (take (edge card h (suc f) 0) (chart zs)) ≡ got (i + 1) (chart early ++ chart frame) = ap (got (i + 1)) (ap (take (edge card h (suc f) 0)) (split ∙ sym (append_assoc (chart early) (chart frame) (chart later))) ∙ take_at (chart early ++ chart frame) (chart later) (edge card h (suc f) 0) at₁) in
            let s = got_append (i + 1) (chart early) (chart frame) in
            let v = law.suc-mul f (total sheet i sheet.rows) in
            omega (arith, g₀, g₁, q₀, q₁, s, v)
