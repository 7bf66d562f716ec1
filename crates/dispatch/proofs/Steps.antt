-- A slice at the start of an interval, and one inside it, keep what holds of the dispatcher.
use Rattle.std.proofs.Common.{◌≡◌, ℕ, ◌+◌, ◌-◌, ◌*◌, ◌%◌, ◌^◌, ◌<◌, true, false, cond, ◌&&◌, eqb, List, [], ◌∷◌, ◌++◌, get_or, sym, ap, ◌∙◌, arith}
use native.Mathlib.Nat as law
use Rattle.std.proofs.lemmas.Bool.{cond_both, eqb-true, eqb-false, true≢false}
use Rattle.card.specs.declared.types.Card.{Card}
use Rattle.sheet.specs.declared.types.Sheet.{Sheet}
use Rattle.sheet.specs.declared.placement.Placement.{Placement}
use Rattle.chart.specs.Charts.{got}
use Rattle.card.specs.Cards.{begins, period_of, run_time_of, released, tasks_of}
use Rattle.sheet.specs.Sheets.{row}
use Rattle.local.specs.Meaning.{Local, Loaded}
use Rattle.dispatch.specs.declared.state.Dispatcher.{Dispatcher}
use Rattle.dispatch.specs.declared.Stamped.{Stamped}
use Rattle.dispatch.specs.Counts.{chart, ticks}
use Rattle.dispatch.specs.Promise.Follows.{opening, going_on}
use Rattle.dispatch.specs.Books.{nothing}
use Rattle.dispatch.specs.Places.{frame_at}
use Rattle.dispatch.specs.Runs.{Out}
use Rattle.dispatch.proofs.Goods.{Good, to_h}
use Rattle.dispatch.proofs.States.{Open, load}
use Rattle.dispatch.proofs.Owing.{Owes, owes_anew}
use Rattle.dispatch.proofs.Invariant.{Core, Amid, slice_core, not_over}

-- a tick of the run in its frame
pub in_frame : (x f h t : ℕ) → x ≡ f * h + t → t < h → x % h ≡ t
in_frame x f h t e l = ap (λ (n : ℕ). n % h) e ∙ law.mul-add-mod_self_right f h t ∙ law.mod-eq_of_lt l

module _ {S : Type 0} (m : Local S) (p : Placement) (card : Card) (h : ℕ) (sheet : Sheet) (good : Good card h sheet) (s : S) (first : ℕ) (d d' : Dispatcher S) (zs : List Stamped) (core : Core m p card h sheet s first d zs) (z : Stamped) where
  abbrev pub Next : Type 0
  Next = Core m p card h sheet s first d' (zs ++ z ∷ []) × (first * h + ticks zs < 2 ^ 32 * h)

  pub start_step : (f k : ℕ) (s₁ : S) → first + f < 2 ^ 32 → Open card h sheet f k zs → ((i : ℕ) → i < card.count → (begins card h k % period_of card i ≡ 0 → ⊥) → Owes card h sheet f k i (get_or d.books.accounts i nothing).owed (got (i + 1) (chart zs))) → Loaded m d.scheduler card.cores (begins card h (k + 1) - begins card h k) (row sheet k) s₁ → Out m card h (first + f) k true s₁ z d d' → Next
  start_step f k s₁ in_time o old loaded out =
      let mid = load m card h sheet good first f k zs d.scheduler s₁ o core.sound loaded in
      let within = o.within in
      let up = good.rising k within in
      let top = to_h card h sheet good (k + 1) (omega (arith, within)) in
      let left = loaded.ticks in
      let tick : begins card h (k + 1) - m.left s₁ ≡ begins card h k = omega (arith, left, up) in
      let at : ticks zs % h ≡ begins card h k = in_frame (ticks zs) f h (begins card h k) o.at (omega (arith, up, top)) in
      let owes : (i : ℕ) → i < card.count → Owes card h sheet f k i (cond (true && eqb ((begins card h (k + 1) - m.left s₁) % period_of card i) 0) (run_time_of card i) (get_or d.books.accounts i nothing).owed) (got (i + 1) (chart zs)) = λ i l. let t : ℕ = (begins card h (k + 1) - m.left s₁) % period_of card i in let same : t ≡ begins card h k % period_of card i = ap (λ (n : ℕ). n % period_of card i) tick in cond_both (eqb t 0) (run_time_of card i) (get_or d.books.accounts i nothing).owed (λ x. Owes card h sheet f k i x (got (i + 1) (chart zs))) (λ e. owes_anew card h sheet good i l f k zs o (sym same ∙ eqb-true t 0 e)) (λ e. old i l (λ q. eqb-false t 0 e (same ∙ q))) in
      let rel : released (tasks_of card) (ticks zs % h) ≡ true = ap (released (tasks_of card)) at ∙ good.releases k within in (
        slice_core m p card h sheet good s first d d' zs core f k in_time true s₁ z mid out rel (λ e. absurd (true≢false e)) owes (opening zs z k d.scheduler s₁ d'.scheduler core.follows within at loaded out.handed),
        not_over m p card h sheet good s first d d' zs core f k in_time true s₁ z mid out,
      )

  pub inside_step : (a : Amid m card h sheet first d zs) → (m.left d.scheduler ≡ 0 → ⊥) → Out m card h (first + a.f) a.k false d.scheduler z d d' → Next
  inside_step a some out =
      let f : ℕ = a.f in
      let k : ℕ = a.k in
      let mid = a.mid in
      let within = mid.within in
      let at = mid.at in
      let low = a.low in
      let last = a.last in
      let fr = ap frame_at a.place in
      let early = core.early in
      let hands = out.handed.some in
      let wit = out.handed.within in
      let in_time : first + f < 2 ^ 32 = omega (arith, fr, early) in
      let top = to_h card h sheet good (k + 1) (omega (arith, within)) in
      let t : ℕ = ticks zs - f * h in
      let whole : ticks zs ≡ f * h + t = omega (arith, low, last) in
      let small : t < begins card h (k + 1) = omega (arith, whole, at, hands, wit) in
      let tick : ticks zs % h ≡ t = in_frame (ticks zs) f h t whole (omega (arith, small, top)) in
      let rel : released (tasks_of card) (ticks zs % h) ≡ false = ap (released (tasks_of card)) tick ∙ good.quiet k t within (omega (arith, whole, low, last)) small in (
        slice_core m p card h sheet good s first d d' zs core f k in_time false d.scheduler z mid out rel (λ e. a.seats) a.owes (going_on zs z d.scheduler d'.scheduler core.follows rel out.handed),
        not_over m p card h sheet good s first d d' zs core f k in_time false d.scheduler z mid out,
      )
