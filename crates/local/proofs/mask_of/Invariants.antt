use Rattle.std.proofs.Common.{◌≡◌, take}
use Rattle.local.specs.Masks.{mask}
use Rattle.local.proofs.mask_of.Given as goal

abbrev pub invariant-loop-core : goal.invariant-loop-core
invariant-loop-core l = l.busy ≡ mask (take l.core l.seats)
