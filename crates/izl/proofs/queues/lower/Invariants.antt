use Rattle.std.proofs.Common.{◌≡◌, ◌++◌, map, take, drop}
use Rattle.izl_rule.specs.Rule.{lowered}
use Rattle.izl.proofs.queues.lower.Given as goal

abbrev pub invariant-loop-core : goal.invariant-loop-core
invariant-loop-core l = l.cores ≡ map (lowered l.ticks) (take l.core-index l.initial.cores) ++ drop l.core-index l.initial.cores
