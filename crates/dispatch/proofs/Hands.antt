-- A slice that is handed out keeps what the slices before it had.
use Rattle.std.proofs.Common.{◌≡◌, ℕ, ◌+◌, ◌-◌, ◌*◌, ◌<◌, ◌≤◌, eqb, ◌⊎◌, List, [], ◌∷◌, ◌++◌, take, count_by, ap, ◌∙◌, subst, arith}
use mathlib.Core.Logic.◌⊎◌.{inl, inr}
use native.Mathlib.Nat as law
use Rattle.std.proofs.lemmas.Bool.{cases_lt}
use Rattle.card.specs.declared.types.Card.{Card}
use Rattle.sheet.specs.declared.types.Sheet.{Sheet}
use Rattle.chart.specs.Charts.{got}
use Rattle.card.specs.Cards.{begins}
use Rattle.sheet.specs.Sheets.{row}
use Rattle.local.specs.Meaning.{Local, Handed, positive}
use Rattle.dispatch.specs.declared.Stamped.{Stamped}
use Rattle.dispatch.specs.Counts.{chart, ticks}
use Rattle.dispatch.proofs.Charts.{got_push, got_front, got_all, once_push, ticks_push}
use Rattle.dispatch.proofs.Along.{along_push, begun, begun_in, begun_before, begun_after}
use Rattle.dispatch.proofs.Goods.{Good, total, edge, Apart, apart}
use Rattle.dispatch.proofs.States.{Fine, Sound, Mid}

module _ {S : Type 0} (m : Local S) (card : Card) (h : ℕ) (sheet : Sheet) (good : Good card h sheet) (first f k : ℕ) (zs : List Stamped) (z : Stamped) (s s' : S) (mid : Mid m card h sheet f k s zs) (hands : Handed m s z.slice s') where
  abbrev pub more : List Stamped
  more = zs ++ z ∷ []

  -- the slice lies in the open interval
  pub lies_in : (ticks zs < edge card h f (k + 1)) × (ticks more + m.left s' ≡ edge card h f (k + 1)) × (ticks more ≡ ticks zs + z.slice.length)
  lies_in =
      let a = mid.at in
      let b = hands.some in
      let c = hands.ticks in
      let t = ticks_push zs z in
      (omega (arith, a, b, c), omega (arith, a, c, t), t)

  pub hand_mid : Mid m card h sheet f k s' more
  hand_mid =
      let p = lies_in in
      let a = mid.begun_at in
      record {
        within = mid.within;
        begun_at = omega (arith, p.2, a);
        at = p.1;
        shares = λ i l. let x = mid.shares i l in let y = hands.amounts (i + 1) (omega arith) in let w = got_push (i + 1) zs z in omega (arith, x, y, w);
        spent = λ e task. let x = hands.fits task in omega (arith, e, x);
        strangers = λ task l. let x = mid.strangers task l in let y = hands.amounts task (omega arith) in omega (arith, x, y);
        slices = let x = mid.slices in let y = hands.fewer in let w = begun_in (edge card h f k) (edge card h f (k + 1)) zs z a p.0 in omega (arith, x, y, w);
        few_cores = let x = mid.few_cores in let y = hands.same_width in omega (arith, x, y);
      }

  module _ (sound : Sound card h sheet first zs) where
    hand_past : (i g l : ℕ) → i < card.count → l < sheet.rows → edge card h g (l + 1) ≤ ticks more → got (i + 1) (take (edge card h g (l + 1)) (chart more)) ≡ g * total sheet i sheet.rows + total sheet i (l + 1)
    hand_past i g l il ll le = go (cases_lt (ticks zs) (edge card h g (l + 1)))
      where
        last : ticks zs < edge card h g (l + 1) → Apart card h sheet good f k g l → got (i + 1) (take (edge card h g (l + 1)) (chart more)) ≡ g * total sheet i sheet.rows + total sheet i (l + 1)
        last lt (inl (e, d)) =
            let p = lies_in.1 in
            let q : edge card h f (k + 1) ≡ edge card h g (l + 1) = ap (λ (n : ℕ). edge card h n (k + 1)) e ∙ ap (λ (n : ℕ). edge card h g (n + 1)) d in
            let a = got_all (i + 1) (edge card h g (l + 1)) more (omega (arith, p, q)) in
            let b = hand_mid.shares i il in
            let c = hands.fits (i + 1) in
            let v = ap (λ (n : ℕ). n * total sheet i sheet.rows) e in
            let w = ap (λ (n : ℕ). total sheet i (n + 1)) d in
            omega (arith, p, q, a, b, c, v, w, le)
        last lt (inr (inl b)) = let p = lies_in.1 in let up = good.rising l ll in absurd (omega (arith, p, b, up, le))
        last lt (inr (inr b)) = let a = mid.begun_at in absurd (omega (arith, a, b, lt))

        go : (ticks zs < edge card h g (l + 1)) ⊎ (edge card h g (l + 1) ≤ ticks zs) → got (i + 1) (take (edge card h g (l + 1)) (chart more)) ≡ g * total sheet i sheet.rows + total sheet i (l + 1)
        go (inl lt) = last lt (apart card h sheet good f k g l mid.within ll)
        go (inr ge) = got_front (i + 1) (edge card h g (l + 1)) zs z ge ∙ sound.past i g l il ll ge

    hand_few : (g l : ℕ) → l < sheet.rows → begun (edge card h g l) (edge card h g (l + 1)) more ≤ positive (row sheet l) + 1
    hand_few g l ll = go (apart card h sheet good f k g l mid.within ll)
      where
        go : Apart card h sheet good f k g l → begun (edge card h g l) (edge card h g (l + 1)) more ≤ positive (row sheet l) + 1
        go (inl (e, d)) =
            let a = hand_mid.slices in
            let b : begun (edge card h f k) (edge card h f (k + 1)) more ≤ positive (row sheet k) + 1 = omega (arith, a) in
            subst (λ (n : ℕ). begun (edge card h g n) (edge card h g (n + 1)) more ≤ positive (row sheet n) + 1) d (subst (λ (n : ℕ). begun (edge card h n k) (edge card h n (k + 1)) more ≤ positive (row sheet k) + 1) e b)
        go (inr (inl b)) = let p = lies_in.0 in let q = begun_before (edge card h g l) (edge card h g (l + 1)) zs z (omega (arith, p, b)) in let r = sound.few g l ll in omega (arith, q, r)
        go (inr (inr b)) = let a = mid.begun_at in let q = begun_after (edge card h g l) (edge card h g (l + 1)) zs z (omega (arith, a, b)) in let r = sound.few g l ll in omega (arith, q, r)

    hand_fine : z.stamp ≡ (first + f) * h + (begins card h (k + 1) - m.left s) → Fine card h sheet first (0 + ticks zs) z
    hand_fine stamp =
        let a = mid.at in
        let b = mid.begun_at in
        let d = law.add-mul first f h in
        let p = lies_in in
        let t = p.2 in
        let e = p.1 in
        record {
          stamp = omega (arith, stamp, a, b, d);
          some = hands.some;
          lies = (f, k, mid.within, omega (arith, b), omega (arith, e, t));
          named = λ task l. let go : (count_by (eqb task) z.slice.seats < 1) ⊎ (1 ≤ count_by (eqb task) z.slice.seats) → count_by (eqb task) z.slice.seats ≡ 0 = elim [ inl lt ↦ omega (arith, lt) | inr ge ↦ let x = hands.enough task (omega arith) ge in let y = mid.strangers task l in let w = hands.some in absurd (omega (arith, x, y, w)) ] in go (cases_lt (count_by (eqb task) z.slice.seats) 1);
          few_cores = λ c l. let x = mid.few_cores in hands.above_idle c (omega (arith, x, l));
        }

    pub hand_sound : z.stamp ≡ (first + f) * h + (begins card h (k + 1) - m.left s) → Sound card h sheet first more
    hand_sound stamp =
        let p = lies_in.2 in
        let some = hands.some in
        record {
          past = hand_past;
          few = hand_few;
          later = λ a b l. let lt : ticks zs < a = omega (arith, p, l, some) in begun_before a b zs z lt ∙ sound.later a b (omega (arith, lt));
          once = once_push zs z sound.once hands.once;
          along = along_push (Fine card h sheet first) 0 zs z sound.along (hand_fine stamp);
        }
