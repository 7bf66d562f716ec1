use Rattle.std.proofs.Common.{◌≡◌, map, take}
use Rattle.std.specs.List.{flat_map}
use Rattle.plan.specs.Plans.{written}
use Rattle.plan.proofs.writer.put_all.Given as goal

abbrev pub invariant-loop-i : goal.invariant-loop-i
invariant-loop-i g l =
    let coded = g.T.Coded in
    (l.out ≡ written l.initial.out l.at (flat_map coded.code (take l.i l.items)))
    × (map (λ x. coded.decode (coded.code x)) (take l.i l.items) ≡ take l.i l.items)
