use Rattle.std.proofs.Common.{◌≡◌, ◌+◌}
use Rattle.card.specs.Verdicts.{gcd_in}
use Rattle.card.proofs.frame.gcd.Given as goal

abbrev pub invariant-loop-b : goal.invariant-loop-b
invariant-loop-b l = gcd_in (l.b + 1) l.a l.b ≡ gcd_in (l.initial.b + 1) l.initial.a l.initial.b

abbrev pub decreases-loop-b : goal.decreases-loop-b
decreases-loop-b l = l.b
