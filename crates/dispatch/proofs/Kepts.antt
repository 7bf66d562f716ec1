-- Deadlines, stamps and places of the slices, from what is kept from call to call.
use Rattle.std.proofs.Common.{◌≡◌, ℕ, zero, suc, ◌+◌, ◌-◌, ◌*◌, ◌<◌, ◌≤◌, List, [], ◌∷◌, ◌++◌, length, take, sym, ap, ◌∙◌, subst, add-one, arith}
use native.Mathlib.Nat as law
use Rattle.std.proofs.lemmas.List.{append_assoc}
use Rattle.card.specs.declared.types.Card.{Card}
use Rattle.sheet.specs.declared.types.Sheet.{Sheet}
use Rattle.chart.specs.Charts.{part, got}
use Rattle.card.specs.Cards.{begins, period_of, run_time_of}
use Rattle.dispatch.specs.declared.Stamped.{Stamped}
use Rattle.dispatch.specs.Counts.{chart, ticks}
use Rattle.dispatch.proofs.Charts.{got_part, length_chart, ticks_push}
use Rattle.dispatch.proofs.Along.{Along, along_at}
use Rattle.dispatch.proofs.Goods.{Good, total, edge}
use Rattle.dispatch.proofs.States.{Fine, Sound}

module _ (card : Card) (h : ℕ) (sheet : Sheet) (good : Good card h sheet) (first : ℕ) (zs : List Stamped) (sound : Sound card h sheet first zs) where
  -- what a task got up to the begin of an interval, or the frame's end
  pub up_to : (i f k : ℕ) → i < card.count → k ≤ sheet.rows → edge card h f k ≤ ticks zs → got (i + 1) (take (edge card h f k) (chart zs)) ≡ f * total sheet i sheet.rows + total sheet i k
  up_to i f (suc k) l r t =
      let P : ℕ → Type 0 = λ n. edge card h f n ≤ ticks zs → got (i + 1) (take (edge card h f n) (chart zs)) ≡ f * total sheet i sheet.rows + total sheet i n in
      subst P (add-one k) (sound.past i f k l (omega (arith, r))) t
  up_to i zero zero l r t =
      let e : edge card h 0 0 ≡ 0 = let a = good.from_0 in let b = law.zero-mul h in omega (arith, a, b) in
      let b = law.zero-mul (total sheet i sheet.rows) in
      let c : got (i + 1) (take (edge card h 0 0) (chart zs)) ≡ 0 = ap (λ (n : ℕ). got (i + 1) (take n (chart zs))) e in
      omega (arith, b, c)
  up_to i (suc f) zero l r t =
      let some = sheet.some_rows in
      let n : ℕ = sheet.rows - 1 in
      let same : sheet.rows - 1 + 1 ≡ sheet.rows = omega (arith, some) in
      let b₁ : begins card h (sheet.rows - 1 + 1) ≡ h = ap (begins card h) same ∙ good.to_end in
      let b₀ = good.from_0 in
      let fh = law.suc-mul f h in
      let e : edge card h f (sheet.rows - 1 + 1) ≡ edge card h (suc f) 0 = omega (arith, b₁, b₀, fh) in
      let p = sound.past i f (sheet.rows - 1) l (omega (arith, some)) (omega (arith, e, t)) in
      let q = ap (λ (n : ℕ). got (i + 1) (take n (chart zs))) e in
      let u = law.suc-mul f (total sheet i sheet.rows) in
      let v = ap (total sheet i) same in
      omega (arith, p, q, u, v)

  pub deadlines : (f i j : ℕ) → i < card.count → (j + 1) * period_of card i ≤ h → f * h + (j + 1) * period_of card i ≤ length (chart zs) → got (i + 1) (part (f * h + j * period_of card i) (f * h + (j + 1) * period_of card i) (chart zs)) ≡ run_time_of card i
  deadlines f i j l w t =
      let p : ℕ = period_of card i in
      let jp = law.add-mul j 1 (period_of card i) in
      let len = length_chart zs in
      let start = good.marked i j l (omega (arith, jp, w)) in
      let end = good.marked i (j + 1) l w in
      let sa = start.2 in
      let se = end.2 in
      let a : edge card h f start.0 ≡ f * h + j * period_of card i = ap (λ (n : ℕ). f * h + n) sa in
      let b : edge card h f end.0 ≡ f * h + (j + 1) * period_of card i = ap (λ (n : ℕ). f * h + n) se in
      let ga = up_to i f start.0 l start.1 (omega (arith, a, jp, t, len)) in
      let gb = up_to i f end.0 l end.1 (omega (arith, b, t, len)) in
      let qa = ap (λ (n : ℕ). got (i + 1) (take n (chart zs))) a in
      let qb = ap (λ (n : ℕ). got (i + 1) (take n (chart zs))) b in
      let sum = good.whole i j start.0 end.0 l start.1 end.1 sa se in
      let cut = got_part (i + 1) (f * h + j * period_of card i) (f * h + (j + 1) * period_of card i) (chart zs) (omega (arith, jp)) in
      omega (arith, ga, gb, qa, qb, sum, cut)

  pub at_place : (early later : List Stamped) (z : Stamped) → zs ≡ early ++ z ∷ later → Fine card h sheet first (ticks early) z
  at_place early later z e = subst (λ (n : ℕ). Fine card h sheet first n z) (law.zero-add (ticks early)) (along_at (Fine card h sheet first) 0 early later z (subst (Along (Fine card h sheet first) 0) e sound.along))

  pub first_stamp : (z : Stamped) (later : List Stamped) → zs ≡ z ∷ later → z.stamp ≡ first * h
  first_stamp z later e = (at_place [] later z e).stamp ∙ law.add-zero (first * h)

  pub next_stamps : (early later : List Stamped) (y z : Stamped) → zs ≡ early ++ y ∷ z ∷ later → z.stamp ≡ y.stamp + y.slice.length
  next_stamps early later y z e =
      let a = (at_place early (z ∷ later) y e).stamp in
      let b = (at_place (early ++ y ∷ []) later z (e ∙ sym (append_assoc early (y ∷ []) (z ∷ later)))).stamp in
      let c = ticks_push early y in
      omega (arith, a, b, c)

  pub inside : (early later : List Stamped) (z : Stamped) → zs ≡ early ++ z ∷ later → (1 ≤ z.slice.length) × ((f : ℕ) × (k : ℕ) × (k < sheet.rows) × (f * h + begins card h k ≤ ticks early) × (ticks early + z.slice.length ≤ f * h + begins card h (k + 1)))
  inside early later z e = let p = at_place early later z e in (p.some, p.lies)
