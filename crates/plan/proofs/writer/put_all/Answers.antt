use Rattle.std.proofs.Common.{arith}
use Rattle.plan.proofs.Pieces.{one_more}
use Rattle.plan.proofs.writer.put_all.Goals as goal

pub loop-i-preserved : goal.loop-i-preserved
loop-i-preserved g c =
    let l = c.loop-i in
    let coded = g.T.Coded in
    let item = c.index-items-i.result in
    let here = rw c.WIDTH.ensures at c.put.ensures.is in
    one_more coded.WIDTH coded.code coded.decode c.args.out.now l.out _ c.args.at l.i c.args.items.now item item g.met.T.Coded.wide (omega arith) c.index-items-i.is (omega arith) l.invariant.0 l.invariant.1 here c.put.ensures.back
