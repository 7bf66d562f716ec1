use Rattle.std.proofs.lemmas.Result.{err_from_is_err_and}
use Rattle.sheet.proofs.Begun.{rows_told, tasks_tell}
use Rattle.sheet.proofs.judge.judge.Goals as goal

pub returns-in_err-rows : goal.returns-in_err-rows
returns-in_err-rows c =
    let p = err_from_is_err_and c.from_residual.result c.from_residual.ensures.1 in
    rw (p.1, p.2) (rows_told c.args.card.now c.args.intervals.now c.requires c.args.sheet.now c.if-not-same_counts.ensures c.in_err-rows.field-0.0 c.in_err-rows.ensures)

pub returns : goal.returns
returns c = tasks_tell c.args.card.now c.args.intervals.now c.requires c.args.sheet.now c.if-not-same_counts.ensures c.tasks.result c.in_ok-rows.ensures c.tasks.ensures
