use Rattle.std.proofs.Common.{arith, IfOk}
use Rattle.std.proofs.lemmas.Grind.{common_steps}
use Rattle.std.proofs.lemmas.Result.{IfOk-weaker}
use Rattle.plan.specs.Plans.{SheetRead}
use Rattle.plan.proofs.Same.{one_sheet}
use Rattle.plan.proofs.reader.Reader.sheet_in.Goals as goal

pub returns-clause-one : goal.returns-clause-one
returns-clause-one c =
    let bs = c.args.self.now.bytes.now in
    let is : IfOk c.new.result (λ sheet. SheetRead bs sheet) = grind (arith, common_steps) in
    IfOk-weaker c.new.result _ _ (one_sheet bs) is
