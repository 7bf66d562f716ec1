use Rattle.card.specs.Times.{start_of}
use Rattle.sheet.specs.Verdicts.{task_by}
use Rattle.sheet.proofs.Turns.{Left}
use Rattle.sheet.proofs.judge.Judgement.tasks.Given as goal

abbrev pub invariant-loop-i : goal.invariant-loop-i
invariant-loop-i l = Left (task_by (start_of l.self.intervals.now) l.self.sheet.now l.self.intervals.now.frame l.self.card.now) l.self.card.now.count l.i
