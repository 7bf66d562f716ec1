-- Each call keeps what holds of the dispatcher, and answers as promised.
use Rattle.std.proofs.Common.{◌≡◌, ℕ, ◌+◌, ◌*◌, ◌%◌, ◌^◌, ◌<◌, ◌≤◌, Bool, true, false, cond, eqb, ltb, List, [], ◌∷◌, ◌++◌, get_or, Ok, Err, Result, sym, refl, ap, ◌∙◌, subst, arith}
use mathlib.Core.Logic.◌⊎◌.{inl, inr}
use Prim.{tt}
use native.Mathlib.Nat as law
use Rattle.std.proofs.lemmas.Bool.{eqb-true, eqb-false, ltb-true, ltb-false}
use Rattle.card.specs.declared.types.Card.{Card}
use Rattle.sheet.specs.declared.types.Sheet.{Sheet}
use Rattle.sheet.specs.declared.placement.Placement.{Placement}
use Rattle.chart.specs.Charts.{got}
use Rattle.card.specs.Cards.{period_of}
use Rattle.local.specs.Meaning.{Local}
use Rattle.dispatch.specs.declared.state.Dispatcher.{Dispatcher}
use Rattle.refusal.specs.declared.DispatchFault.{DispatchFault}
use Rattle.refusal.specs.declared.DispatchFault.TheVariants.{LastFrame}
use Rattle.dispatch.specs.declared.Stamped.{Stamped}
use Rattle.dispatch.specs.Counts.{chart, ticks}
use Rattle.dispatch.specs.Promise.{Right, Told}
use Rattle.dispatch.specs.Books.{nothing}
use Rattle.dispatch.specs.Places.{frame_at}
use Rattle.dispatch.specs.Runs.{Call, Where, Answers, where_next, onward, behind, handed}
use Rattle.dispatch.specs.Runs.Call.{next_slice}
use Rattle.dispatch.specs.Runs.Where.{inside, at_start, past}
use Rattle.dispatch.proofs.Goods.{Good, total}
use Rattle.dispatch.proofs.States.{Open, close, close_frame}
use Rattle.dispatch.proofs.Owing.{owes_on}
use Rattle.dispatch.proofs.Invariant.{Core, Before, Amid}
use Rattle.dispatch.proofs.Steps.{Next, start_step, inside_step}

by_test : {W : Type 0} (A : W → Type 0) (Q : Type 0) (b : Bool) (x y : W) → A (cond b x y) → (b ≡ true → A x → Q) → (b ≡ false → A y → Q) → Q
by_test A Q true x y a t f = t refl a
by_test A Q false x y a t f = f refl a

module _ {S : Type 0} (m : Local S) (p : Placement) (card : Card) (h : ℕ) (sheet : Sheet) (good : Good card h sheet) (s : S) (first : ℕ) where
  abbrev pub Inv : Dispatcher S → List Call → Type 0
  Inv d calls = Core m p card h sheet s first d (handed calls) × Told card h first calls

  module _ (d d' : Dispatcher S) (calls : List Call) (inv : Inv d calls) (r : Result Stamped DispatchFault) where
    finish : (z : Stamped) → r ≡ Ok z → Next m p card h sheet good s first d d' (handed calls) inv.0 z → Inv d' (next_slice r ∷ calls)
    finish z e next =
        let P : Result Stamped DispatchFault → Type 0 = λ r. Inv d' (next_slice r ∷ calls) in
        let n = next.1 in
        let right : Right card h first (next_slice (Ok z)) calls = ((λ l. tt), λ l. absurd (omega (arith, l, n))) in
        let v : P (Ok z) = (next.0, (right, inv.1)) in
        subst P (sym e) v

    module _ (a : Amid m card h sheet first d (handed calls)) where
      early : first + a.f < 2 ^ 32
      early = let x = inv.0.early in let y = ap frame_at a.place in omega (arith, x, y)

      -- the last frame of all was handed out whole
      over : sheet.rows ≤ a.k + 1 → 2 ^ 32 ≤ first + a.f + 1 → m.left d.scheduler ≡ 0 → Answers m card sheet h d r d' past → Inv d' (next_slice r ∷ calls)
      over l q e (answer, stays) =
          let o = close_frame m card h sheet good first a.f a.k (handed calls) d.scheduler a.mid e l in
          let at = o.at in
          let b₀ = good.from_0 in
          let x = early in
          let same : first + (a.f + 1) ≡ 2 ^ 32 = omega (arith, x, q) in
          let whole = law.add-mul first (a.f + 1) h in
          let mul : (first + (a.f + 1)) * h ≡ 2 ^ 32 * h = ap (λ (n : ℕ). n * h) same in
          let P : Result Stamped DispatchFault → Type 0 = λ r. Core m p card h sheet s first d' (handed (next_slice r ∷ calls)) × Right card h first (next_slice r) calls in
          let c : Core m p card h sheet s first d' (handed calls ++ []) = subst (λ (zs : List Stamped). Core m p card h sheet s first d' zs) (sym (mathlib.Core.List.append-nil (handed calls))) (subst (λ (e : Dispatcher S). Core m p card h sheet s first e (handed calls)) (sym stays) inv.0) in
          let v : P (Err LastFrame) = (c, ((λ l. absurd (omega (arith, l, at, b₀, whole, mul))), (λ l. refl))) in
          let w : P r = subst P (sym answer) v in
          (w.0, (w.1, inv.1))

      next_interval : m.left d.scheduler ≡ 0 → a.k + 1 < sheet.rows → Answers m card sheet h d r d' (at_start (first + a.f) (a.k + 1)) → Inv d' (next_slice r ∷ calls)
      next_interval e l (z, s₁, answer, loaded, out) =
          finish z answer (start_step m p card h sheet good s first d d' (handed calls) inv.0 z a.f (a.k + 1) s₁ early (close m card h sheet good first a.f a.k (handed calls) d.scheduler a.mid e l) (λ i il never. owes_on card h sheet good i il a.f a.k (get_or d.books.accounts i nothing).owed (got (i + 1) (chart (handed calls))) (a.owes i il) never) loaded out)

      next_frame : m.left d.scheduler ≡ 0 → sheet.rows ≤ a.k + 1 → first + a.f + 1 < 2 ^ 32 → Answers m card sheet h d r d' (at_start (first + a.f + 1) 0) → Inv d' (next_slice r ∷ calls)
      next_frame e l t ans =
          let same : first + a.f + 1 ≡ first + (a.f + 1) = omega arith in
          go (subst (λ (n : ℕ). Answers m card sheet h d r d' (at_start n 0)) same ans)
        where
          go : Answers m card sheet h d r d' (at_start (first + (a.f + 1)) 0) → Inv d' (next_slice r ∷ calls)
          go (z, s₁, answer, loaded, out) = finish z answer (start_step m p card h sheet good s first d d' (handed calls) inv.0 z (a.f + 1) 0 s₁ (omega (arith, t)) (close_frame m card h sheet good first a.f a.k (handed calls) d.scheduler a.mid e l) (λ i il never. absurd (never (ap (λ (n : ℕ). n % period_of card i) good.from_0 ∙ law.zero-mod (period_of card i)))) loaded out)

      amid : Answers m card sheet h d r d' (cond (eqb (m.left d.scheduler) 0) (behind sheet.rows (first + a.f) a.k) (inside (first + a.f) a.k)) → Inv d' (next_slice r ∷ calls)
      amid ans = by_test A Q (eqb (m.left d.scheduler) 0) (behind sheet.rows (first + a.f) a.k) (inside (first + a.f) a.k) ans
          (λ e b. let left : m.left d.scheduler ≡ 0 = eqb-true (m.left d.scheduler) 0 e in by_test A Q (ltb (a.k + 1) sheet.rows) (at_start (first + a.f) (a.k + 1)) (cond (ltb (first + a.f + 1) (2 ^ 32)) (at_start (first + a.f + 1) 0) past) b
          (λ l c. next_interval left (ltb-true (a.k + 1) sheet.rows l) c)
          (λ l c. let last : sheet.rows ≤ a.k + 1 = ltb-false (a.k + 1) sheet.rows l in by_test A Q (ltb (first + a.f + 1) (2 ^ 32)) (at_start (first + a.f + 1) 0) past c
          (λ t g. next_frame left last (ltb-true (first + a.f + 1) (2 ^ 32) t) g)
          (λ t g. over last (ltb-false (first + a.f + 1) (2 ^ 32) t) left g)))
          (λ e b. finish b.0 b.1 (inside_step m p card h sheet good s first d d' (handed calls) inv.0 b.0 a (eqb-false (m.left d.scheduler) 0 e) b.2))
        where
          A : Where → Type 0
          A w = Answers m card sheet h d r d' w

          Q : Type 0
          Q = Inv d' (next_slice r ∷ calls)

    at_first : Before card first d (handed calls) → Answers m card sheet h d r d' (at_start (first + 0) 0) → Inv d' (next_slice r ∷ calls)
    at_first b (z, s₁, answer, loaded, out) =
        let early = inv.0.early in
        let fr = ap frame_at b.place in
        let rows = sheet.some_rows in
        let b₀ = good.from_0 in
        let zh = law.zero-mul h in
        let none = ap ticks b.empty in
        let o : Open card h sheet 0 0 (handed calls) = record { within = omega (arith, rows); at = omega (arith, none, b₀, zh); shares = λ i l. let g = ap (λ (zs : List Stamped). got (i + 1) (chart zs)) b.empty in let q = law.zero-mul (total sheet i sheet.rows) in omega (arith, g, q) } in
        finish z answer (start_step m p card h sheet good s first d d' (handed calls) inv.0 z 0 0 s₁ (omega (arith, early, fr)) o (λ i il never. absurd (never (ap (λ (n : ℕ). n % period_of card i) good.from_0 ∙ law.zero-mod (period_of card i)))) loaded out)

    pub answers : Answers m card sheet h d r d' (where_next m sheet.rows d) → Inv d' (next_slice r ∷ calls)
    answers ans = elim inv.0.phase [ inl b ↦ at_first b (subst A (before b) ans) | inr a ↦ amid a (subst A (between a) ans) ]
      where
        A : Where → Type 0
        A w = Answers m card sheet h d r d' w

        before : (b : Before card first d (handed calls)) → where_next m sheet.rows d ≡ at_start (first + 0) 0
        before b =
            ap (onward sheet.rows (m.left d.scheduler)) b.place ∙ ap (λ (n : ℕ). at_start n 0) (sym (law.add-zero first))

        between : (a : Amid m card h sheet first d (handed calls)) → where_next m sheet.rows d ≡ cond (eqb (m.left d.scheduler) 0) (behind sheet.rows (first + a.f) a.k) (inside (first + a.f) a.k)
        between a = ap (onward sheet.rows (m.left d.scheduler)) a.place
