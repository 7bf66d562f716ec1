use Rattle.std.proofs.Common.{reverse, ap, ◌∙◌}
use Rattle.std.proofs.lemmas.List.{reverse-reverse}
use Rattle.std.proofs.lemmas.Iterator.Adapters.{YieldsList-from_rev_slice}
use Rattle.std.proofs.lemmas.Iterator.Consumers.{YieldsList-end}
use Rattle.izl.specs.View.{seated_over}
use Rattle.izl.proofs.slices.seat_all.Goals as goal

pub returns : goal.returns
returns c =
    let whole = ap (λ s. s.iter.rest.now) c.into_iter-core-iterator.ensures.into_iter_gives ∙ ap (λ s. s.rest.now) c.rev-core-items.ensures.source ∙ c.iter.ensures.rest in
    let all = YieldsList-end (YieldsList-from_rev_slice c.args.cores.now whole) c.loop-core.yielded _ c.loop-core.yielded_by _ _ c.in-None.is c.next.ensures.steps in
    c.loop-core.invariant ∙ ap (seated_over c.args.seats.now) (ap reverse all.0 ∙ reverse-reverse c.args.cores.now)
