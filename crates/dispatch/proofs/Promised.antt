-- The promise holds of every run.
use Rattle.std.proofs.Common.{◌≡◌, ℕ, ◌^◌, ◌<◌, List, [], ◌∷◌, ◌++◌, sym, refl, ap, ◌∙◌, subst, append-nil, arith}
use mathlib.Core.Logic.◌⊎◌.{inl}
use Prim.{tt}
use Rattle.card.specs.declared.types.Card.{Card}
use Rattle.sheet.specs.declared.types.Sheet.{Sheet}
use Rattle.sheet.specs.declared.placement.Placement.{Placement}
use Rattle.sheet.specs.Held.{held as holding, Holds}
use Rattle.card.proofs.Frames.{frame_one}
use Rattle.local.specs.Meaning.{Local}
use Rattle.dispatch.specs.declared.state.Dispatcher.{Dispatcher}
use Rattle.dispatch.specs.declared.Stamped.{Stamped}
use Rattle.dispatch.specs.Promise.{Promised, Kept, Follows}
use Rattle.dispatch.specs.Promise.Follows.{untouched}
use Rattle.dispatch.specs.Places.{frame_at}
use Rattle.dispatch.specs.Runs.{Call, Does, Run, Begun, Answers, where_next, handed}
use Rattle.dispatch.specs.Runs.Call.{next_slice, account, tally}
use Rattle.dispatch.proofs.Induct.{every_run}
use Rattle.dispatch.proofs.Idle.{idle}
use Rattle.dispatch.proofs.Goods.{Good}
use Rattle.dispatch.proofs.States.{Sound}
use Rattle.dispatch.proofs.Kepts.{deadlines, first_stamp, next_stamps, inside}
use Rattle.dispatch.proofs.Grown.{grown}
use Rattle.dispatch.proofs.Invariant.{Core}
use Rattle.dispatch.proofs.Calls.{Inv, answers}
use Rattle.dispatch.proofs.Questions.{account_right, tally_right}

pub kept_of : (card : Card) (h : ℕ) (sheet : Sheet) → Good card h sheet → (first : ℕ) (zs : List Stamped) → Sound card h sheet first zs → Kept card sheet h first zs
kept_of card h sheet good first zs sound = record {
  deadlines = deadlines card h sheet good first zs sound;
  once = sound.once;
  first_stamp = first_stamp card h sheet good first zs sound;
  next_stamps = next_stamps card h sheet good first zs sound;
  few = sound.few;
  inside = inside card h sheet good first zs sound;
  grown = grown card h sheet good first zs sound;
}

module _ {S : Type 0} (m : Local S) (p : Placement) (s : S) (first : ℕ) (card : Card) (h : ℕ) (sheet : Sheet) (good : Good card h sheet) (held : Holds p card sheet) where
  at_begin : (d : Dispatcher S) → first < 2 ^ 32 → Begun p s first d → Core m p card h sheet s first d []
  at_begin d early begun =
      let fr = ap frame_at begun.place in
      record {
        placement = begun.held;
        early = omega (arith, fr, early);
        sound = record { past = λ i f k il kl le. let up = good.rising k kl in absurd (omega (arith, up, le)); few = λ f k l. omega arith; later = λ a b l. refl; once = tt; along = tt };
        tally = record { slices = begun.no_slices; switches = begun.no_switches; busy = begun.no_busy; few_slices = omega arith; few_switches = omega arith; little_busy = omega arith };
        follows = subst (Follows m card sheet h s []) (sym begun.over) untouched;
        phase = inl (record { place = begun.place; empty = refl; accounts = begun.accounts card sheet held });
      }

  abbrev I : Dispatcher S → List Call → Type 0
  I = Inv m p card h sheet good s first

  same_state : (d d' : Dispatcher S) (zs : List Stamped) → d' ≡ d → Core m p card h sheet s first d zs → Core m p card h sheet s first d' (zs ++ [])
  same_state d d' zs stays core = subst (λ (ys : List Stamped). Core m p card h sheet s first d' ys) (sym (append-nil zs)) (subst (λ (e : Dispatcher S). Core m p card h sheet s first e zs) (sym stays) core)

  kept : (d d' : Dispatcher S) (c : Call) (calls : List Call) → I d calls → Does m d c d' → I d' (c ∷ calls)
  kept d d' (next_slice r) calls inv does =
      let full = does.filled card sheet (ap holding inv.0.placement ∙ held) in
      answers m p card h sheet good s first d d' calls inv r (subst (λ (n : ℕ). Answers m card sheet n d r d' (where_next m sheet.rows d)) (frame_one card full.0 h full.1 good.frame) full.2)
  kept d d' (account task r) calls inv (answer, stays) = (same_state d d' (handed calls) stays inv.0, (account_right m p card h sheet good s first d calls inv.0 task r held answer, inv.1))
  kept d d' (tally t) calls inv (answer, stays) = (same_state d d' (handed calls) stays inv.0, (tally_right m p card h sheet good s first d calls inv.0 t answer, inv.1))

  pub filled : {d e : Dispatcher S} {calls : List Call} → first < 2 ^ 32 → Begun p s first d → Run m d calls e → I e calls
  filled {d} early begun run = every_run m I kept (at_begin d early begun, tt) run

-- The promise of every run, from what acceptance gives of what the placement holds.
pub promise_of_runs : {S : Type 0} (m : Local S) (p : Placement) (s : S) (first : ℕ) (d₀ e : Dispatcher S) (calls : List Call) → ((card : Card) (sheet : Sheet) → Holds p card sheet → (h : ℕ) × Good card h sheet) → first < 2 ^ 32 → Begun p s first d₀ → Run m d₀ calls e → Promised m p s first calls
promise_of_runs {S} m p s first d₀ e calls goods early begun run = record {
  filled = λ card sheet held. let g = goods card sheet held in let inv = filled m p s first card g.0 sheet g.1 held early begun run in record { h = g.0; frame = g.1.frame; kept = kept_of card g.0 sheet g.1 first (handed calls) inv.0.sound; told = inv.1; last = e.scheduler; follows = inv.0.follows };
  empty = λ empty. (idle m p s first d₀ begun empty run).1;
}
