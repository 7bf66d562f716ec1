use Rattle.card.specs.Times.{start_of}
use Rattle.sheet.specs.Verdicts.{interval_by}
use Rattle.sheet.proofs.Turns.{Left}
use Rattle.sheet.proofs.judge.Judgement.rows.Given as goal

abbrev pub invariant-loop-k : goal.invariant-loop-k
invariant-loop-k l = Left (interval_by (start_of l.self.intervals.now) l.self.sheet.now l.self.card.now.cores) l.self.sheet.now.rows l.k
