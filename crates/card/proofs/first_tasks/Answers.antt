use Rattle.std.proofs.Common.{arith}
use Rattle.card.proofs.Padding.{padding_front}
use Rattle.card.proofs.first_tasks.Goals as goal

pub returns-clause-front : goal.returns-clause-front
returns-clause-front c = rw (c.padded.ensures, c.from.ensures) (padding_front c.args.tasks.now c.args.count 32 c.default.result (omega arith) c.requires)
