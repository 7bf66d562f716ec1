use Rattle.std.proofs.Common.{◌≡◌, ◌*◌, length, take}
use Rattle.std.specs.List.{flat_map}
use Rattle.plan.specs.File.{parts}
use Rattle.plan.proofs.reader.read_all.Given as goal

abbrev pub invariant-loop-i : goal.invariant-loop-i
invariant-loop-i g l =
    let coded = g.T.Coded in
    (take l.i l.place-items ≡ parts coded.WIDTH coded.decode l.i l.bytes)
    × (flat_map coded.code (parts coded.WIDTH coded.decode l.i l.bytes) ≡ take (coded.WIDTH * l.i) l.bytes) × (length l.place-items ≡ l.fn.n)
