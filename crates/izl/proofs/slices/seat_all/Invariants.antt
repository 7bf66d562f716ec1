use Rattle.std.proofs.Common.{◌≡◌, map, reverse}
use Rattle.izl.specs.View.{seated_over}
use Rattle.izl.proofs.slices.seat_all.Given as goal

abbrev pub invariant-loop-core : goal.invariant-loop-core
invariant-loop-core l = l.seats ≡ seated_over l.initial.seats (reverse (map (λ r. r.now) l.yielded))
