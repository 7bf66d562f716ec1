-- A dispatcher whose placement is empty: proved for every succession of calls.
use Rattle.std.proofs.Common.{◌≡◌, ℕ, List, ◌∷◌, Option, Result, sym, refl, ap, ◌∙◌, subst}
use Prim.{tt}
use Rattle.card.specs.declared.types.Card.{Card}
use Rattle.sheet.specs.declared.types.Sheet.{Sheet}
use Rattle.sheet.specs.declared.placement.Placement.{Placement}
use Rattle.sheet.specs.Held.{held as holding, Empty}
use Rattle.local.specs.Meaning.{Local}
use Rattle.dispatch.specs.declared.state.Dispatcher.{Dispatcher}
use Rattle.refusal.specs.declared.DispatchFault.{DispatchFault}
use Rattle.dispatch.specs.declared.Stamped.{Stamped}
use Rattle.dispatch.specs.Refused.{RefusedBy}
use Rattle.dispatch.specs.Runs.{Call, Does, Run, Begun, account_in}
use Rattle.dispatch.specs.Runs.Call.{next_slice, account, tally}
use Rattle.dispatch.specs.Promise.{Silent}
use Rattle.dispatch.proofs.Induct.{every_run}

module _ {S : Type 0} (m : Local S) (p : Placement) (s : S) (first : ℕ) (d : Dispatcher S) (begun : Begun p s first d) (empty : Empty p) where
  abbrev P : Dispatcher S → List Call → Type 0
  P e calls = (e ≡ d) × Silent calls

  held : (e : Dispatcher S) → e ≡ d → Empty e.placement
  held e same = ap (λ (x : Dispatcher S). holding x.placement) same ∙ ap holding begun.held ∙ empty

  kept : (e e' : Dispatcher S) (c : Call) (calls : List Call) → P e calls → Does m e c e' → P e' (c ∷ calls)
  kept e e' (next_slice r) calls (same, told) does =
      let a = does.empty (held e same) in
      let Q : Result Stamped DispatchFault → Type 0 = λ r. RefusedBy 41 r in
      (a.1 ∙ same, (subst Q (sym a.0) refl, told))
  kept e e' (account task r) calls (same, told) (answer, stays) =
      let Q : Result (ℕ × ℕ) DispatchFault → Type 0 = λ r. RefusedBy 43 r in
      (stays ∙ same, (subst Q (sym (answer ∙ ap (λ (o : Option (Card × Sheet)). account_in o e.books task) (held e same))) refl, told))
  kept e e' (tally t) calls (same, told) (answer, stays) =
      (stays ∙ same, (answer ∙ ap (λ (x : Dispatcher S). (x.books.slices, x.books.switches, x.books.busy)) same ∙ zeros, told))
    where
      zeros : ◌≡◌ {A = ℕ × ℕ × ℕ} (d.books.slices, d.books.switches, d.books.busy) (0, 0, 0)
      zeros = ap (λ (n : ℕ). let v : ℕ × ℕ × ℕ = (n, d.books.switches, d.books.busy) in v) begun.no_slices ∙ ap (λ (n : ℕ). let v : ℕ × ℕ × ℕ = (0, n, d.books.busy) in v) begun.no_switches ∙ ap (λ (n : ℕ). let v : ℕ × ℕ × ℕ = (0, 0, n) in v) begun.no_busy

  pub idle : {e : Dispatcher S} {calls : List Call} → Run m d calls e → (e ≡ d) × Silent calls
  idle run = every_run m P kept (refl, tt) run
