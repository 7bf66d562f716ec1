use Rattle.std.proofs.Common.{◌/◌}
use Rattle.card.specs.Times.{start_of}
use Rattle.sheet.specs.Verdicts.{job_by}
use Rattle.sheet.proofs.Turns.{Left}
use Rattle.sheet.proofs.judge.Judgement.jobs.Given as goal

abbrev pub invariant-loop-job : goal.invariant-loop-job
invariant-loop-job l = Left (job_by (start_of l.self.intervals.now) l.self.sheet.now l.i l.task) (l.self.intervals.now.frame / l.task.period) l.job
