use Rattle.std.proofs.Common.{◌<◌, length, get_or, arith}
use Rattle.std.proofs.lemmas.List.{get_or_default}
use Rattle.std.proofs.lemmas.List.Edits.{map_over_more}
use Rattle.izl_rule.specs.declared.Running.{Running}
use Rattle.izl_rule.specs.Rule.{nobody, lowered}
use Rattle.izl.proofs.queues.lower.Goals as goal

pub loop-core-preserved : goal.loop-core-preserved
loop-core-preserved c =
    let x : Running = get_or c.loop-core.cores c.loop-core.core-index nobody in
    let lt : c.loop-core.core-index < length c.args.cores.now = omega (arith, c.loop-core.auto.cores, c.loop-core-test.true) in
    map_over_more (lowered c.args.ticks) c.args.cores.now c.loop-core.cores c.loop-core.core-index x lt c.loop-core.invariant (get_or_default c.loop-core.cores c.loop-core.core-index nobody x (omega (arith, c.loop-core-test.true, c.loop-core.auto.cores)))
