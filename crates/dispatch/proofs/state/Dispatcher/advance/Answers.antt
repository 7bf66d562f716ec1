use Rattle.std.proofs.Common.{◌≡◌, ℕ, Some, sym, refl, ap, ◌∙◌, subst, arith}
use Rattle.sheet.specs.Held.{rows_in}
use Rattle.dispatch.specs.declared.place.Place.TheVariants.{In}
use Rattle.dispatch.specs.Moves.{Advanced}
use Rattle.dispatch.specs.Places.{target}
use Rattle.dispatch.proofs.Moving.{where_target}
use Rattle.dispatch.proofs.state.Dispatcher.advance.Goals as goal
use Rattle.dispatch.proofs.state.Dispatcher.advance.Goals.{in-In+else-ticks_left-gt0, in_default}

pub returns : goal.returns
returns g c = λ card sheet h.
    let d = c.args.self.now in
    let m = g.S.LocalScheduler.meaning in
    let over : (f k : ℕ) → d.place ≡ In f k → m.left d.scheduler ≡ 0 = λ f k e. elim c.match-self.branch [ in-In+else-ticks_left-gt0 w ↦ omega (arith, w.ticks_left.ensures, w.if-ticks_left-gt0.false) | in_default w ↦ absurd (w.in_default.not-In f k e) ] in
    let rows : c.interval_count.result ≡ sheet.rows = c.interval_count.ensures ∙ ap rows_in h in
    let goes : target d.place sheet.rows ≡ Some (c.in-Some.frame, c.in-Some.interval) = ap (target d.place) (sym rows) ∙ sym c.next.ensures ∙ c.in-Some.is in
    let there = where_target d.place (m.left d.scheduler) sheet.rows c.in-Some.frame c.in-Some.interval over goes in
    subst (Advanced m card sheet _ d _ _) (sym there) (refl, c.load_interval.ensures card sheet h, refl, refl, refl)
