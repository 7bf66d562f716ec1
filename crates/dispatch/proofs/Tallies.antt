-- The tally in the books is what the slices handed out come to.
use Rattle.std.proofs.Common.{◌≡◌, ℕ, ◌+◌, ◌*◌, ◌%◌, ◌^◌, ◌≤◌, Bool, true, false, cond, List, [], ◌∷◌, ◌++◌, length, sym, refl, ap, ◌∙◌, arith}
use lib.Count.{ones}
use native.Mathlib.Nat as law
use Rattle.std.proofs.lemmas.List.{length_push}
use Rattle.card.specs.declared.types.Card.{Card}
use Rattle.sheet.specs.declared.types.Sheet.{Sheet}
use Rattle.chart.specs.Charts.{Row}
use Rattle.card.specs.Cards.{released, tasks_of}
use Rattle.dispatch.specs.declared.books.Books.{Books}
use Rattle.dispatch.specs.declared.Stamped.{Stamped}
use Rattle.dispatch.specs.Counts.{ticks, changed, switches_of, busy_ticks}
use Rattle.dispatch.specs.Books.{Entered}
use Rattle.dispatch.proofs.Charts.{ticks_push}
use Rattle.dispatch.proofs.Seats.{taken_narrow, changed_taken, last_seats, last_seats_push, switches_push, busy_push, ones_busy}
use Rattle.dispatch.proofs.States.{Fine}

pub record Tally (card : Card) (h : ℕ) (b : Books) (zs : List Stamped) : Type 0 where
  pub slices : b.slices ≡ length zs
  pub switches : b.switches ≡ switches_of card h 0 [] zs
  pub busy : b.busy ≡ busy_ticks zs
  -- they stay small
  pub few_slices : length zs ≤ ticks zs
  pub few_switches : switches_of card h 0 [] zs ≤ 16 * ticks zs
  pub little_busy : busy_ticks zs ≤ 16 * ticks zs

module _ (card : Card) (h : ℕ) (sheet : Sheet) (first : ℕ) (zs : List Stamped) (z : Stamped) (b b' : Books) (start : Bool) (tick : ℕ) where
  pub tally_push : Tally card h b zs → Entered card b start tick z.slice b' → Fine card h sheet first (ticks zs) z → released (tasks_of card) (ticks zs % h) ≡ start → (start ≡ false → b.seats ≡ last_seats [] zs) → ticks zs + z.slice.length ≤ 2 ^ 32 * 1000000 → Tally card h b' (zs ++ z ∷ [])
  tally_push t entered fine rel seats short =
      let some = fine.some in
      let narrow = taken_narrow 16 z.slice.seats fine.few_cores in
      let push = ticks_push zs z in
      let len = length_push zs z in
      let n₁ = t.few_slices in
      let n₂ = t.few_switches in
      let n₃ = t.little_busy in
      let c : ℕ = changed (cond start [] b.seats) z.slice.seats in
      let ch = changed_taken (cond start [] b.seats) z.slice.seats in
      let sw : switches_of card h 0 [] (zs ++ z ∷ []) ≡ switches_of card h 0 [] zs + changed (cond start [] b.seats) z.slice.seats = switches_push card h 0 [] zs z ∙ ap (λ (n : ℕ). switches_of card h 0 [] zs + changed (cond (released (tasks_of card) (n % h)) [] (last_seats [] zs)) z.slice.seats) (law.zero-add (ticks zs)) ∙ ap (λ (r : Row). switches_of card h 0 [] zs + changed r z.slice.seats) (ap (λ (q : Bool). cond q [] (last_seats [] zs)) rel ∙ same start seats) in
      let bu = busy_push zs z in
      let on = ones_busy z in
      let le : ones z.slice.busy ≤ 16 = omega (arith, on, narrow) in
      let mul : z.slice.length * ones z.slice.busy ≤ z.slice.length * 16 = law.mul-le-mul_left z.slice.length le in
      let e₁ = entered.slices in
      let e₂ = entered.switches in
      let e₃ = entered.busy in
      let t₁ = t.slices in
      let t₂ = t.switches in
      let t₃ = t.busy in
      record {
        slices = omega (arith, e₁, t₁, len, n₁, some, short);
        switches = omega (arith, e₂, t₂, sw, n₂, ch, narrow, some, short);
        busy = omega (arith, e₃, t₃, bu, n₃, mul, short);
        few_slices = omega (arith, len, push, n₁, some);
        few_switches = omega (arith, sw, push, n₂, ch, narrow, some);
        little_busy = omega (arith, bu, push, n₃, mul);
      }
    where
      same : (q : Bool) → (q ≡ false → b.seats ≡ last_seats [] zs) → cond q [] (last_seats [] zs) ≡ cond q [] b.seats
      same true e = refl
      same false e = sym (e refl)

  pub seats_push : Entered card b start tick z.slice b' → b'.seats ≡ last_seats [] (zs ++ z ∷ [])
  seats_push entered = entered.seats ∙ sym (last_seats_push [] zs z)
