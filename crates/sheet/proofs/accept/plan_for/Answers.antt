use Rattle.std.proofs.Common.{Ok, Result, refl}
use Rattle.std.proofs.lemmas.Result.{err_from_is_err_and}
use Rattle.refusal.specs.declared.SheetFault.{SheetFault}
use Rattle.sheet.specs.Tellings.{Tells}
use Rattle.sheet.specs.Verdicts.{judged}
use Rattle.sheet.proofs.Answered.{answered}
use Rattle.sheet.proofs.Ordered.{sheet_fine, sheet_told_lem}
use Rattle.sheet.proofs.accept.plan_for.Goals as goal

pub returns-in_err-judge : goal.returns-in_err-judge
returns-in_err-judge c =
    let card = c.args.card.now in
    let sheet = c.args.sheet.now in
    let r = c.from_residual-in_err-judge.result in
    let p = err_from_is_err_and r c.from_residual-in_err-judge.ensures.1 in
    let found = c.in_ok-intervals.ensures.judged in
    let told = sheet_told_lem card sheet _ found.0 found.1 c.in_err-judge.field-0.0 c.in_err-judge.ensures in
    let tells : Tells r (judged card sheet) = rw (p.1, p.2) told in
    record { answered = answered card sheet r tells; judged = rw (p.1, p.2) told }

pub returns : goal.returns
returns c =
    let card = c.args.card.now in
    let sheet = c.args.sheet.now in
    let found = c.in_ok-intervals.ensures.judged in
    let good = sheet_fine card sheet _ found.0 found.1 c.in_ok-judge.ensures in
    let r : Result (Unit {0}) SheetFault = Ok tt in
    record { answered = answered card sheet r good; judged = (refl, good) }
