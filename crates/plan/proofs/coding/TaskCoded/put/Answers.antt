use Rattle.std.proofs.Common.{◌+◌, refl, ap, ◌∙◌, arith}
use Rattle.plan.specs.File.{bytes_of}
use Rattle.plan.specs.Plans.{written}
use Rattle.plan.proofs.Written.{written_both}
use Rattle.plan.proofs.coding.TaskCoded.put.Goals as goal

pub returns-clause-is : goal.returns-clause-is
returns-clause-is c =
    let task = c.args.self in
    c.put-2.ensures.is ∙ ap (λ l. written l (c.args.at + 4) (bytes_of 4 task.run_time)) c.put.ensures.is
    ∙ written_both c.args.out.now (bytes_of 4 task.period) (bytes_of 4 task.run_time) c.args.at (c.args.at + 4) (omega arith) refl
