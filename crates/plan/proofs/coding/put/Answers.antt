use Rattle.std.proofs.Common.{arith}
use Rattle.plan.proofs.Written.{written_part}
use Rattle.plan.proofs.coding.put.Goals as goal

pub returns : goal.returns
returns c = written_part c.args.out.now _ c.args.bytes.now c.args.at _ c.copy_from_slice.ensures.after (omega arith) c.requires
