-- What holds of a dispatcher after any calls, and that a slice keeps it.
use Rattle.std.proofs.Common.{◌≡◌, ℕ, suc, ◌+◌, ◌-◌, ◌*◌, ◌%◌, ◌^◌, ◌<◌, ◌≤◌, Bool, false, cond, ◌&&◌, eqb, ◌⊎◌, List, [], ◌∷◌, ◌++◌, get_or, sym, refl, ap, ◌∙◌, subst, arith}
use mathlib.Core.Logic.◌⊎◌.{inr}
use native.Mathlib.Nat as law
use Rattle.card.specs.declared.types.Card.{Card}
use Rattle.sheet.specs.declared.types.Sheet.{Sheet}
use Rattle.sheet.specs.declared.placement.Placement.{Placement}
use Rattle.chart.specs.Charts.{got}
use Rattle.card.specs.Cards.{begins, period_of, run_time_of, released, tasks_of}
use Rattle.local.specs.Meaning.{Local, seated}
use Rattle.dispatch.specs.declared.books.Account.{Account}
use Rattle.dispatch.specs.declared.place.Place.TheVariants as place
use Rattle.dispatch.specs.declared.state.Dispatcher.{Dispatcher}
use Rattle.dispatch.specs.declared.Stamped.{Stamped}
use Rattle.dispatch.specs.Counts.{chart, ticks, last_start}
use Rattle.dispatch.specs.Promise.{Follows}
use Rattle.dispatch.specs.Books.{nothing}
use Rattle.dispatch.specs.Places.{frame_at}
use Rattle.dispatch.specs.Runs.{Out}
use Rattle.dispatch.proofs.Along.{last_start_push}
use Rattle.dispatch.proofs.Goods.{Good, edge, to_h}
use Rattle.dispatch.proofs.States.{Sound, Mid}
use Rattle.dispatch.proofs.Hands.{lies_in, hand_mid, hand_sound}
use Rattle.dispatch.proofs.Kepts.{at_place}
use Rattle.dispatch.proofs.Seats.{last_seats}
use Rattle.dispatch.proofs.Tallies.{Tally, tally_push, seats_push}
use Rattle.dispatch.proofs.Owing.{Owes, owes_hand}

-- no slice was handed out yet
pub record Before {S : Type 0} (card : Card) (first : ℕ) (d : Dispatcher S) (zs : List Stamped) : Type 0 where
  pub place : d.place ≡ place.Before first
  pub empty : zs ≡ []
  pub accounts : (i : ℕ) → i < card.count → get_or d.books.accounts i nothing ≡ record { given = 0; owed = run_time_of card i }

-- some slice was, in interval k of frame f of the run
pub record Amid {S : Type 0} (m : Local S) (card : Card) (h : ℕ) (sheet : Sheet) (first : ℕ) (d : Dispatcher S) (zs : List Stamped) : Type 0 where
  pub f : ℕ
  pub k : ℕ
  pub place : d.place ≡ place.In (first + f) k
  pub mid : Mid m card h sheet f k d.scheduler zs
  pub low : edge card h f k ≤ last_start zs
  pub high : last_start zs < edge card h f (k + 1)
  pub last : last_start zs < ticks zs
  pub seats : d.books.seats ≡ last_seats [] zs
  pub sums : (i : ℕ) → i < card.count → (get_or d.books.accounts i nothing).given + (get_or d.books.accounts i nothing).owed ≡ run_time_of card i
  pub owes : (i : ℕ) → i < card.count → Owes card h sheet f k i (get_or d.books.accounts i nothing).owed (got (i + 1) (chart zs))

pub record Core {S : Type 0} (m : Local S) (p : Placement) (card : Card) (h : ℕ) (sheet : Sheet) (s : S) (first : ℕ) (d : Dispatcher S) (zs : List Stamped) : Type 0 where
  pub placement : d.placement ≡ p
  pub early : frame_at d.place < 2 ^ 32
  pub sound : Sound card h sheet first zs
  pub tally : Tally card h d.books zs
  pub follows : Follows m card sheet h s zs d.scheduler
  pub phase : Before card first d zs ⊎ Amid m card h sheet first d zs

module _ {S : Type 0} (m : Local S) (p : Placement) (card : Card) (h : ℕ) (sheet : Sheet) (good : Good card h sheet) (s : S) (first : ℕ) (d d' : Dispatcher S) (zs : List Stamped) (core : Core m p card h sheet s first d zs) (f k : ℕ) (in_time : first + f < 2 ^ 32) (start : Bool) (s₁ : S) (z : Stamped) (mid : Mid m card h sheet f k s₁ zs) (out : Out m card h (first + f) k start s₁ z d d') where
  -- the run is not over, and not longer than all frames
  pub short : first * h + ticks zs + z.slice.length ≤ 2 ^ 32 * h
  short =
      let a = lies_in m card h sheet good first f k zs z s₁ d'.scheduler mid out.handed in
      let b = a.1 in
      let c = a.2 in
      let within = mid.within in
      let top = to_h card h sheet good (k + 1) (omega (arith, within)) in
      let mul : suc (first + f) * h ≤ 2 ^ 32 * h = law.mul-le-mul_right h in_time in
      let e = law.suc-mul (first + f) h in
      let g = law.add-mul first f h in
      omega (arith, b, c, top, mul, e, g)

  pub not_over : first * h + ticks zs < 2 ^ 32 * h
  not_over = let a = short in let b = out.handed.some in omega (arith, a, b)

  pub slice_core : released (tasks_of card) (ticks zs % h) ≡ start → (start ≡ false → d.books.seats ≡ last_seats [] zs) → ((i : ℕ) → i < card.count → Owes card h sheet f k i (cond (start && eqb ((begins card h (k + 1) - m.left s₁) % period_of card i) 0) (run_time_of card i) (get_or d.books.accounts i nothing).owed) (got (i + 1) (chart zs))) → Follows m card sheet h s (zs ++ z ∷ []) d'.scheduler → Core m p card h sheet s first d' (zs ++ z ∷ [])
  slice_core rel seats owed follows =
      let sound = hand_sound m card h sheet good first f k zs z s₁ d'.scheduler mid out.handed core.sound out.stamp in
      let fine = at_place card h sheet good first (zs ++ z ∷ []) sound zs [] z refl in
      let fr = ap frame_at out.place in
      let lies = lies_in m card h sheet good first f k zs z s₁ d'.scheduler mid out.handed in
      let ls = last_start_push zs z in
      let ba = mid.begun_at in
      let l₀ = lies.0 in
      let l₂ = lies.2 in
      let some = out.handed.some in
      let sh = short in
      let hs = good.short in
      let big : 2 ^ 32 * h ≤ 2 ^ 32 * 1000000 = law.mul-le-mul_left (2 ^ 32) hs in
      let O : (i : ℕ) → i < card.count → Owes card h sheet f k i (cond (start && eqb ((begins card h (k + 1) - m.left s₁) % period_of card i) 0) (run_time_of card i) (get_or d.books.accounts i nothing).owed - seated z.slice (i + 1) * z.slice.length) (got (i + 1) (chart (zs ++ z ∷ []))) = λ i l. owes_hand card h sheet good i l m f k (cond (start && eqb ((begins card h (k + 1) - m.left s₁) % period_of card i) 0) (run_time_of card i) (get_or d.books.accounts i nothing).owed) zs z s₁ d'.scheduler mid out.handed (owed i l) in
      record {
        placement = out.placement ∙ core.placement;
        early = omega (arith, fr, in_time);
        sound = sound;
        tally = tally_push card h sheet first zs z d.books d'.books start (begins card h (k + 1) - m.left s₁) core.tally out.books fine rel seats (omega (arith, sh, big));
        follows = follows;
        phase = inr (record {
          f = f;
          k = k;
          place = out.place;
          mid = hand_mid m card h sheet good first f k zs z s₁ d'.scheduler mid out.handed;
          low = omega (arith, ls, ba);
          high = omega (arith, ls, l₀);
          last = omega (arith, ls, l₂, some);
          seats = seats_push card h sheet first zs z d.books d'.books start (begins card h (k + 1) - m.left s₁) out.books;
          sums = λ i l. let a = out.books.accounts i l in let g = ap (λ (a : Account). a.given) a in let o = ap (λ (a : Account). a.owed) a in let small = (O i l).small in omega (arith, g, o, small);
          owes = λ i l. let a = out.books.accounts i l in let o = ap (λ (a : Account). a.owed) a in subst (λ (n : ℕ). Owes card h sheet f k i n (got (i + 1) (chart (zs ++ z ∷ [])))) (sym o) (O i l);
        });
      }
