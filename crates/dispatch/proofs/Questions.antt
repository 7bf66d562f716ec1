-- The account and the tally answer as promised.
use Rattle.std.proofs.Common.{◌≡◌, ℕ, ◌+◌, ◌-◌, ◌%◌, ◌<◌, Bool, true, false, cond, ◌&&◌, leb, ◌⊎◌, List, [], length, get_or, Some, Ok, Err, Option, Result, sym, refl, ap, ◌∙◌, subst, arith}
use mathlib.Core.Logic.◌⊎◌.{inl, inr}
use Rattle.std.proofs.Math.Seq.{drop-nil}
use Rattle.std.proofs.lemmas.Bool.{and_parts, and_from, le-leb, leb-true, both_ways}
use Rattle.card.specs.declared.types.Card.{Card}
use Rattle.sheet.specs.declared.types.Sheet.{Sheet}
use Rattle.sheet.specs.declared.placement.Placement.{Placement}
use Rattle.sheet.specs.Held.{held as holding, Holds}
use Rattle.chart.specs.Charts.{got}
use Rattle.card.specs.Cards.{period_of, run_time_of}
use Rattle.local.specs.Meaning.{Local}
use Rattle.dispatch.specs.declared.books.Account.{Account}
use Rattle.dispatch.specs.declared.state.Dispatcher.{Dispatcher}
use Rattle.refusal.specs.declared.DispatchFault.{DispatchFault}
use Rattle.refusal.specs.declared.DispatchFault.TheVariants.{NoTask}
use Rattle.dispatch.specs.declared.Stamped.{Stamped}
use Rattle.dispatch.specs.Counts.{given_of, last_start, switches_of}
use Rattle.dispatch.specs.Promise.{Right}
use Rattle.dispatch.specs.Books.{nothing}
use Rattle.dispatch.specs.Runs.{Call, account_in, handed}
use Rattle.dispatch.specs.Runs.Call.{account, tally}
use Rattle.dispatch.proofs.Goods.{Good}
use Rattle.dispatch.proofs.Owing.{owes_given}
use Rattle.dispatch.proofs.Invariant.{Core, Before, Amid}

module _ {S : Type 0} (m : Local S) (p : Placement) (card : Card) (h : ℕ) (sheet : Sheet) (good : Good card h sheet) (s : S) (first : ℕ) (d : Dispatcher S) (calls : List Call) (core : Core m p card h sheet s first d (handed calls)) where
  abbrev of : ℕ → Account
  of i = get_or d.books.accounts i nothing

  pub accounts_right : (i : ℕ) → i < card.count → ((of i).given ≡ given_of card h (handed calls) i) × ((of i).given + (of i).owed ≡ run_time_of card i)
  accounts_right i l = go core.phase
    where
      go : Before card first d (handed calls) ⊎ Amid m card h sheet first d (handed calls) → ((of i).given ≡ given_of card h (handed calls) i) × ((of i).given + (of i).owed ≡ run_time_of card i)
      go (inl b) =
          let a = b.accounts i l in
          let g = ap (λ (a : Account). a.given) a in
          let o = ap (λ (a : Account). a.owed) a in
          let e : given_of card h (handed calls) i ≡ 0 = ap (λ (zs : List Stamped). given_of card h zs i) b.empty ∙ ap (got (i + 1)) (drop-nil (last_start [] - (last_start [] % h) % period_of card i)) in
          (omega (arith, g, e), omega (arith, g, o))
      go (inr a) =
          let sum = a.sums i l in
          let last = a.last in
          let given = owes_given card h sheet good i l first a.f a.k (of i).owed (handed calls) core.sound (a.owes i l) a.low a.high (omega (arith, last)) in
          (omega (arith, sum, given), sum)

  pub account_right : (task : ℕ) (r : Result (ℕ × ℕ) DispatchFault) → Holds p card sheet → r ≡ account_in (holding d.placement) d.books task → Right card h first (account task r) calls
  account_right task r held answer =
      let e : r ≡ account_in (Some (card, sheet)) d.books task = answer ∙ ap (λ (p : Placement). account_in (holding p) d.books task) core.placement ∙ ap (λ (o : Option (Card × Sheet)). account_in o d.books task) held in
      let P : Result (ℕ × ℕ) DispatchFault → Type 0 = λ r. Right card h first (account task r) calls in
      subst P (sym e) (go (leb 1 task && leb task card.count) refl)
    where
      go : (b : Bool) → (leb 1 task && leb task card.count) ≡ b → Right card h first (account task (cond b (Ok ((of (task - 1)).given, (of (task - 1)).owed)) (Err NoTask))) calls
      go true e =
          let parts = and_parts (leb 1 task) (leb task card.count) e in
          let some = leb-true 1 task parts.0 in
          let few = leb-true task card.count parts.1 in
          ((λ x y. accounts_right (task - 1) (omega (arith, some, few))), (λ never. absurd (never some few)))
      go false e = ((λ x y. absurd (both_ways (leb 1 task && leb task card.count) e (and_from (leb 1 task) (leb task card.count) (le-leb 1 task x) (le-leb task card.count y)))), (λ never. refl))

  pub tally_right : (t : ℕ × ℕ × ℕ) → t ≡ (d.books.slices, d.books.switches, d.books.busy) → Right card h first (tally t) calls
  tally_right t e = e ∙ ap (λ (n : ℕ). let v : ℕ × ℕ × ℕ = (n, d.books.switches, d.books.busy) in v) core.tally.slices ∙ ap (λ (n : ℕ). let v : ℕ × ℕ × ℕ = (length (handed calls), n, d.books.busy) in v) core.tally.switches ∙ ap (λ (n : ℕ). let v : ℕ × ℕ × ℕ = (length (handed calls), switches_of card h 0 [] (handed calls), n) in v) core.tally.busy
