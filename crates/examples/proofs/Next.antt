-- The next slice of a dispatcher over IZL.
use Rattle.std.proofs.Common.{◌≡◌, ℕ, Some, None, Option, Result, sym, refl, subst}
use Rattle.refusal.specs.declared.DispatchFault.{DispatchFault}
use Rattle.card.specs.declared.types.Card.{Card}
use Rattle.sheet.specs.declared.types.Sheet.{Sheet}
use Rattle.sheet.specs.Held.{held}
use Rattle.izl.specs.declared.state.Izl.{Izl}
use Rattle.izl.specs.Told.{told}
use Rattle.izl.proofs.Telling.{busy}
use Rattle.dispatch.specs.declared.state.Dispatcher.{Dispatcher}
use Rattle.dispatch.specs.declared.Stamped.{Stamped}
use Rattle.dispatch.specs.Runs.{Where, Answers, NextSlice, where_next}
use Rattle.dispatch.specs.Runs.Where.{inside, at_start, past}
use Rattle.examples.specs.Known.{NoneIdle}

module _ (d d' : Dispatcher Izl) (r : Result Stamped DispatchFault) where
  by_place : (card : Card) (sheet : Sheet) (h : ℕ) (w : Where) → Answers told card sheet h d r d' w → NoneIdle r d'
  by_place card sheet h (inside f k) a = subst (λ x. NoneIdle x d') (sym a.1) (d.scheduler, a.2.handed, busy d.scheduler d'.scheduler a.0.slice a.2.handed)
  by_place card sheet h (at_start f k) a = subst (λ x. NoneIdle x d') (sym a.2) (a.1, a.4.handed, busy a.1 d'.scheduler a.0.slice a.4.handed)
  by_place card sheet h past a = subst (λ x. NoneIdle x d') (sym a.0) tt

  pub none_idle : NextSlice told d r d' → NoneIdle r d'
  none_idle n = go (held d.placement) refl
    where
      go : (o : Option (Card × Sheet)) → held d.placement ≡ o → NoneIdle r d'
      go None e = subst (λ x. NoneIdle x d') (sym (n.empty e).0) tt
      go (Some q) e = let a = n.filled q.0 q.1 e in by_place q.0 q.1 a.0 (where_next told q.1.rows d) a.2
