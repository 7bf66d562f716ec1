use Rattle.std.proofs.Common.{◌≡◌, Err, Result, sym, ap, ◌∙◌, subst}
use Rattle.std.proofs.lemmas.Result.{err_from_is_err_and}
use Rattle.refusal.specs.declared.DispatchFault.{DispatchFault}
use Rattle.card.specs.Cards.{tasks_of}
use Rattle.card.specs.Verdicts.{frame_of}
use Rattle.sheet.specs.Held.{held, Holds}
use Rattle.dispatch.specs.declared.Stamped.{Stamped}
use Rattle.dispatch.specs.Runs.{Answers, where_next}
use Rattle.dispatch.proofs.Filled.{not_empty, by_full}
use Rattle.dispatch.proofs.Moving.{placed, ready, answers_of, refused_of}
use Rattle.dispatch.proofs.Placed.{good_held}
use Rattle.dispatch.proofs.state.Dispatcher.next_slice.Goals as goal

pub returns-in_err-frame : goal.returns-in_err-frame
returns-in_err-frame g c =
    let m = g.S.LocalScheduler.meaning in
    let d = c.args.self.now in
    let e = c.in_err-frame.field-0.0 in
    let p = err_from_is_err_and c.from_residual.result c.from_residual.ensures.1 in
    let same : c.from_residual.result ≡ Err e = p.1 ∙ ap (λ (x : DispatchFault). Err x) p.2 in
    record {
      empty = λ e. absurd (not_empty (held d.placement) (sym c.if-is_empty.ensures) e);
      filled = λ card sheet h. (frame_of (tasks_of card), (good_held d.placement card sheet h).frame, subst (λ (r : Result Stamped DispatchFault). Answers m card sheet (frame_of (tasks_of card)) d r c.advance.new.self (where_next m sheet.rows d)) (sym same) (refused_of m card sheet (frame_of (tasks_of card)) d c.advance.new.self e (where_next m sheet.rows d) (c.in_err-frame.ensures card sheet h)));
    }

pub hand_out-requires : goal.hand_out-requires
hand_out-requires g c =
    let m = g.S.LocalScheduler.meaning in
    let d = c.args.self.now in
    let q = by_full (held d.placement) (sym c.if-is_empty.ensures) in
    let r = ready m q.0 q.1 (frame_of (tasks_of q.0)) d c.advance.new.self (c.in_ok-frame.frame, c.in_ok-frame.interval, c.in_ok-frame.first) (where_next m q.1.rows d) (c.in_ok-frame.ensures q.0 q.1 q.2) in
    record { place = r.0; left = r.1 }

pub returns : goal.returns
returns g c =
    let m = g.S.LocalScheduler.meaning in
    let d = c.args.self.now in
    let d₁ = c.advance.new.self in
    record {
      empty = λ e. absurd (not_empty (held d.placement) (sym c.if-is_empty.ensures) e);
      filled = λ card sheet h.
          let a = c.in_ok-frame.ensures card sheet h in
          let w = where_next m sheet.rows d in
          let there : Holds d₁.placement card sheet = ap held (placed m card sheet (frame_of (tasks_of card)) d d₁ (c.in_ok-frame.frame, c.in_ok-frame.interval, c.in_ok-frame.first) w a) ∙ h in
          (frame_of (tasks_of card), (good_held d.placement card sheet h).frame, answers_of m card sheet (frame_of (tasks_of card)) d d₁ (c.in_ok-frame.frame, c.in_ok-frame.interval, c.in_ok-frame.first) c.hand_out.result c.hand_out.new.self (c.hand_out.ensures card sheet there) w a);
    }
