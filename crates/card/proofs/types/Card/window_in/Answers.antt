use Rattle.std.proofs.Common.{sym, ◌∙◌}
use Rattle.card.proofs.Asked.{begun_within}
use Rattle.card.proofs.types.Card.window_in.Goals as goal

pub window_at-requires-clause-frame : goal.window_at-requires-clause-frame
window_at-requires-clause-frame c =
    begun_within c.args.self.now c.intervals.result c.intervals.ensures.judged c.in_ok-v.v c.in_ok-v.ensures.value _ _ c.in_ok-start.start (sym c.begins.ensures ∙ c.in_ok-start.was)
