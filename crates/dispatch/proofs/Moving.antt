-- A dispatcher that has gone on to its next slice, and what it then answers.
use Rattle.std.proofs.Common.{◌≡◌, ℕ, ◌+◌, ◌-◌, ◌^◌, ◌≤◌, Bool, true, false, cond, ltb, is_ok, Some, None, Ok, Err, Option, Result, sym, refl, ap, ◌∙◌, subst, arith}
use Rattle.std.proofs.lemmas.Bool.{eq-eqb, true≢false}
use Rattle.refusal.specs.declared.DispatchFault.{DispatchFault}
use Rattle.card.specs.declared.types.Card.{Card}
use Rattle.card.specs.Cards.{begins}
use Rattle.sheet.specs.declared.types.Sheet.{Sheet}
use Rattle.std.proofs.lemmas.Option.{same_Some, none-some}
use Rattle.local.specs.Meaning.{Local}
use Rattle.dispatch.specs.declared.books.Books.{Books}
use Rattle.dispatch.specs.declared.state.Dispatcher.{Dispatcher}
use Rattle.dispatch.specs.declared.Stamped.{Stamped}
use Rattle.dispatch.specs.Books.{Entered}
use Rattle.dispatch.specs.Moves.{Advanced}
use Rattle.dispatch.specs.Places.{target}
use Rattle.dispatch.specs.declared.place.Place.{Place}
use Rattle.dispatch.specs.declared.place.Place.TheVariants.{Before, In}
use Rattle.dispatch.specs.Runs.{Where, Answers, Out, behind, onward}
use Rattle.dispatch.specs.Runs.Where.{inside, at_start, past}

-- the interval to load is where the next slice lies
pub where_target : (p : Place) (left n f' k' : ℕ) → ((f k : ℕ) → p ≡ In f k → left ≡ 0) → target p n ≡ Some (f', k') → onward n left p ≡ at_start f' k'
where_target (Before f) left n f' k' over e = ap (λ (p : ℕ × ℕ). at_start p.0 p.1) (same_Some (f, 0) (f', k') e)
where_target (In f k) left n f' k' over e =
    ap (λ (b : Bool). cond b (behind n f k) (inside f k)) (eq-eqb left 0 (over f k refl)) ∙ go (ltb (k + 1) n) (ltb (f + 1) (2 ^ 32)) e
  where
    go : (more again : Bool) → cond {A = Option (ℕ × ℕ)} more (Some (f, k + 1)) (cond again (Some (f + 1, 0)) None) ≡ Some (f', k') → cond more (at_start f (k + 1)) (cond again (at_start (f + 1) 0) past) ≡ at_start f' k'
    go true again e = ap (λ (p : ℕ × ℕ). at_start p.0 p.1) (same_Some (f, k + 1) (f', k') e)
    go false true e = ap (λ (p : ℕ × ℕ). at_start p.0 p.1) (same_Some (f + 1, 0) (f', k') e)
    go false false e = absurd (none-some (f', k') e)

ok_inj : {A E : Type 0} (x y : A) → ◌≡◌ {A = Result A E} (Ok x) (Ok y) → x ≡ y
ok_inj {A} {E} x y e = ap value e
  where
    value : Result A E → A
    value (Ok a) = a
    value (Err _) = x

err_inj : {A E : Type 0} (x y : E) → ◌≡◌ {A = Result A E} (Err x) (Err y) → x ≡ y
err_inj {A} {E} x y e = ap fault e
  where
    fault : Result A E → E
    fault (Ok _) = x
    fault (Err b) = b

ok_err : {A E : Type 0} (x : A) (y : E) → ◌≡◌ {A = Result A E} (Ok x) (Err y) → ⊥
ok_err x y e = true≢false (ap is_ok e)

-- frame and interval of the next slice, and whether it begins that interval
abbrev pub Step : Type 0
Step = ℕ × ℕ × Bool

module _ {S : Type 0} (m : Local S) (card : Card) (sheet : Sheet) (h : ℕ) (d d₁ : Dispatcher S) where
  module _ (t : Step) where
    pub placed : (w : Where) → Advanced m card sheet h d (Ok t) d₁ w → d₁.placement ≡ d.placement
    placed (inside f k) a = ap (λ (e : Dispatcher S). e.placement) a.1
    placed (at_start f k) a = a.2
    placed past a = ap (λ (e : Dispatcher S). e.placement) a.1

    pub ready : (w : Where) → Advanced m card sheet h d (Ok t) d₁ w → (d₁.place ≡ In t.0 t.1) × (1 ≤ m.left d₁.scheduler)
    ready (inside f k) a =
        let at : d₁.place ≡ In f k = ap (λ (e : Dispatcher S). e.place) a.1 ∙ a.3 in
        (at ∙ ap (λ (u : Step). In u.0 u.1) (sym (ok_inj t (f, k, false) a.0)), subst (λ (e : Dispatcher S). 1 ≤ m.left e.scheduler) (sym a.1) a.2)
    ready (at_start f k) a = (a.4 ∙ ap (λ (u : Step). In u.0 u.1) (sym (ok_inj t (f, k, true) a.0)), omega (arith, a.1.ticks, a.1.fit.limits.2))
    ready past a = absurd (ok_err t _ a.0)

    module _ (z : Stamped) (d₂ : Dispatcher S) (out : Out m card h t.0 t.1 t.2 d₁.scheduler z d₁ d₂) where
      told_as : (u : Step) → t ≡ u → Out m card h u.0 u.1 u.2 d₁.scheduler z d₁ d₂
      told_as u e = subst (λ (v : Step). Out m card h v.0 v.1 v.2 d₁.scheduler z d₁ d₂) e out

      pub answers_of : (w : Where) → Advanced m card sheet h d (Ok t) d₁ w → Answers m card sheet h d (Ok z) d₂ w
      answers_of (inside f k) (told, same, some, at) =
          (z, refl, subst (λ (e : Dispatcher S). Out m card h f k false e.scheduler z e d₂) same (told_as (f, k, false) (ok_inj t (f, k, false) told)))
      answers_of (at_start f k) (told, loads, placement, books, at) =
          let b = told_as (f, k, true) (ok_inj t (f, k, true) told) in (
            z,
            d₁.scheduler,
            refl,
            loads,
            record {
              handed = b.handed;
              stamp = b.stamp;
              placement = b.placement ∙ placement;
              place = b.place;
              books = subst (λ (x : Books). Entered card x true (begins card h (k + 1) - m.left d₁.scheduler) z.slice d₂.books) books b.books;
            },
          )
      answers_of past (told, same) = absurd (ok_err t _ told)

  pub refused_of : (e : DispatchFault) (w : Where) → Advanced m card sheet h d (Err e) d₁ w → Answers m card sheet h d (Err e) d₁ w
  refused_of e (inside f k) a = absurd (ok_err (f, k, false) e (sym a.0))
  refused_of e (at_start f k) a = absurd (ok_err (f, k, true) e (sym a.0))
  refused_of e past a = (ap (λ (x : DispatchFault). Err x) (err_inj e _ a.0), a.1)
