-- What a task is owed in its window, and that it is what the slices handed out have not given.
use Rattle.std.proofs.Common.{◌≡◌, ℕ, ◌+◌, ◌-◌, ◌*◌, ◌/◌, ◌%◌, ◌<◌, ◌≤◌, List, [], ◌∷◌, ◌++◌, drop, ap, ◌∙◌, arith}
use mathlib.Core.Logic.◌⊎◌.{inl, inr}
use native.Mathlib.Nat as law
use Rattle.std.proofs.lemmas.Bool.{cases_lt}
use Rattle.card.specs.declared.types.Card.{Card}
use Rattle.sheet.specs.declared.types.Sheet.{Sheet}
use Rattle.chart.specs.Charts.{got}
use Rattle.card.specs.Cards.{begins, period_of, run_time_of}
use Rattle.local.specs.Meaning.{Local, Handed, seated}
use Rattle.dispatch.specs.declared.Stamped.{Stamped}
use Rattle.dispatch.specs.Counts.{chart, ticks, last_start, given_of}
use Rattle.dispatch.proofs.Charts.{got_drop, got_push}
use Rattle.dispatch.proofs.Goods.{Good, total, total_le, edge, below, to_h}
use Rattle.dispatch.proofs.States.{Sound, Open, Mid}
use Rattle.dispatch.proofs.Kepts.{up_to}

-- interval k lies in the window of job j of task i, which ends where interval b begins; the task got g ticks since the start of the run
pub record Owes (card : Card) (h : ℕ) (sheet : Sheet) (f k i owed g : ℕ) : Type 0 where
  pub job : ℕ
  pub end : ℕ
  pub from_job : job * period_of card i ≤ begins card h k
  pub before_end : k < end
  pub end_in : end ≤ sheet.rows
  pub end_at : begins card h end ≡ (job + 1) * period_of card i
  pub sum : owed + g ≡ f * total sheet i sheet.rows + total sheet i end
  pub small : owed ≤ run_time_of card i

module _ (card : Card) (h : ℕ) (sheet : Sheet) (good : Good card h sheet) (i : ℕ) (il : i < card.count) where
  -- the next multiple of a divisor of h is at most h
  next_multiple : (j p q : ℕ) → j * p < q * p → (j + 1) * p ≤ q * p
  next_multiple j p q l = let lt : j < q = law.lt_of_mul-lt-mul_right p l in law.mul-le-mul_right p (omega (arith, lt))

  pub owes_anew : (f k : ℕ) (zs : List Stamped) → Open card h sheet f k zs → begins card h k % period_of card i ≡ 0 → Owes card h sheet f k i (run_time_of card i) (got (i + 1) (chart zs))
  owes_anew f k zs o e =
      let p : ℕ = period_of card i in
      let some = good.periods i il in
      let j : ℕ = begins card h k / p in
      let jp : begins card h k / p * p + begins card h k % p ≡ begins card h k = law.div-add-mod' (begins card h k) p in
      let qp : h / p * p + h % p ≡ h = law.div-add-mod' h p in
      let hp = good.frame.common i il in
      let up = good.rising k o.within in
      let w = o.within in
      let top = to_h card h sheet good (k + 1) (omega (arith, w)) in
      let nx : (j + 1) * p ≤ h / p * p = next_multiple j p (h / p) (omega (arith, jp, qp, hp, e, up, top)) in
      let mark = good.marked i (j + 1) il (omega (arith, nx, qp)) in
      let at = mark.2 in
      let am : (j + 1) * p ≡ j * p + 1 * p = law.add-mul j 1 p in
      let om : 1 * p ≡ p = law.one-mul p in
      let start : begins card h k ≡ j * p = omega (arith, jp, e) in
      let whole = good.whole i j k mark.0 il (omega (arith, w)) mark.1 start at in
      let shares = o.shares i il in
      record {
        job = j;
        end = mark.0;
        from_job = omega (arith, start);
        before_end = after mark.0 (omega (arith, at, am, om, some, start));
        end_in = mark.1;
        end_at = at;
        sum = omega (arith, whole, shares);
        small = omega arith;
      }
    where
      after : (b : ℕ) → begins card h k < begins card h b → k < b
      after b lt = elim (cases_lt k b) [ inl l ↦ l | inr l ↦ let w = o.within in let x = below card h sheet good b k l (omega (arith, w)) in absurd (omega (arith, x, lt)) ]

  pub owes_on : (f k owed g : ℕ) → Owes card h sheet f k i owed g → (begins card h (k + 1) % period_of card i ≡ 0 → ⊥) → Owes card h sheet f (k + 1) i owed g
  owes_on f k owed g o never =
      let low = o.from_job in
      let be = o.before_end in
      let ei = o.end_in in
      let up = good.rising k (omega (arith, be, ei)) in
      record {
        job = o.job;
        end = o.end;
        from_job = omega (arith, low, up);
        before_end = elim (cases_lt (k + 1) o.end) [ inl l ↦ l | inr l ↦ absurd (never (ap (λ (n : ℕ). begins card h n % period_of card i) (let e : k + 1 ≡ o.end = omega (arith, be, l) in e) ∙ ap (λ (n : ℕ). n % period_of card i) o.end_at ∙ law.mul-mod_left (o.job + 1) (period_of card i))) ];
        end_in = ei;
        end_at = o.end_at;
        sum = o.sum;
        small = o.small;
      }

  pub owes_hand : {S : Type 0} (m : Local S) (f k owed : ℕ) (zs : List Stamped) (z : Stamped) (s s' : S) → Mid m card h sheet f k s zs → Handed m s z.slice s' → Owes card h sheet f k i owed (got (i + 1) (chart zs)) → Owes card h sheet f k i (owed - seated z.slice (i + 1) * z.slice.length) (got (i + 1) (chart (zs ++ z ∷ [])))
  owes_hand m f k owed zs z s s' mid hands o =
      let shares = mid.shares i il in
      let am = hands.amounts (i + 1) (omega arith) in
      let push = got_push (i + 1) zs z in
      let be = o.before_end in
      let le = total_le sheet i (k + 1) o.end (omega (arith, be)) in
      let sum = o.sum in
      let small = o.small in
      record {
        job = o.job;
        end = o.end;
        from_job = o.from_job;
        before_end = be;
        end_in = o.end_in;
        end_at = o.end_at;
        sum = omega (arith, shares, am, push, le, sum);
        small = omega (arith, small);
      }

  -- what is owed and what was given in the window of the last slice are the run time
  pub owes_given : (first f k owed : ℕ) (zs : List Stamped) → Sound card h sheet first zs → Owes card h sheet f k i owed (got (i + 1) (chart zs)) → edge card h f k ≤ last_start zs → last_start zs < edge card h f (k + 1) → last_start zs ≤ ticks zs → given_of card h zs i + owed ≡ run_time_of card i
  owes_given first f k owed zs sound o low high short =
      let p : ℕ = period_of card i in
      let j : ℕ = o.job in
      let t : ℕ = last_start zs - f * h in
      let be = o.before_end in
      let ei = o.end_in in
      let fj = o.from_job in
      let ea = o.end_at in
      let am : (j + 1) * p ≡ j * p + 1 * p = law.add-mul j 1 p in
      let om : 1 * p ≡ p = law.one-mul p in
      let down = below card h sheet good (k + 1) o.end (omega (arith, be)) ei in
      let top = to_h card h sheet good o.end ei in
      let whole_t : last_start zs ≡ f * h + t = omega (arith, low) in
      let small_t : t < h = omega (arith, high, whole_t, down, top) in
      let in_t : last_start zs % h ≡ t = ap (λ (n : ℕ). n % h) whole_t ∙ law.mul-add-mod_self_right f h t ∙ law.mod-eq_of_lt small_t in
      let r : ℕ = t - j * p in
      let whole_r : t ≡ j * p + r = omega (arith, fj, low, whole_t) in
      let small_r : r < p = omega (arith, whole_r, high, whole_t, down, ea, am, om) in
      let in_r : t % p ≡ r = ap (λ (n : ℕ). n % p) whole_r ∙ law.mul-add-mod_self_right j p r ∙ law.mod-eq_of_lt small_r in
      let off : (last_start zs % h) % p ≡ r = ap (λ (n : ℕ). n % p) in_t ∙ in_r in
      let mark = good.marked i j il (omega (arith, am, ea, top)) in
      let at = mark.2 in
      let from : last_start zs - (last_start zs % h) % p ≡ edge card h f mark.0 = omega (arith, off, whole_t, whole_r, at) in
      let given : given_of card h zs i ≡ got (i + 1) (drop (edge card h f mark.0) (chart zs)) = ap (λ (n : ℕ). got (i + 1) (drop n (chart zs))) from in
      let front = up_to card h sheet good first zs sound i f mark.0 il mark.1 (omega (arith, at, whole_t, whole_r, short)) in
      let cut = got_drop (i + 1) (edge card h f mark.0) (chart zs) in
      let whole = good.whole i j mark.0 o.end il mark.1 ei at ea in
      let sum = o.sum in
      omega (arith, given, front, cut, whole, sum)
