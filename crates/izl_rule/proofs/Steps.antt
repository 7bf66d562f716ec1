-- The steps of a passage on both queues as one list.
use Rattle.std.proofs.Common.{ℕ, ◌+◌, ◌-◌, cond, eqb, List, [], ◌∷◌, ◌++◌, map, length, get_or, take, drop}
use Rattle.std.specs.List.{remove}
use Rattle.izl_rule.specs.declared.Waiting.{Waiting}
use Rattle.izl_rule.specs.Rule as rule
use Rattle.izl_rule.specs.Rule.{nothing, running_of, waiting_of}
use Rattle.izl_rule.specs.Invariant.{Merged}

abbrev pub Job : Type 0
Job = Waiting

-- the amount on the first core of the line, and that of the last job
abbrev pub least : Merged → ℕ
least s = (get_or s.jobs 0 nothing).amount

abbrev pub final : Merged → Job
final s = get_or s.jobs (length s.jobs - 1) nothing

abbrev pub most : Merged → ℕ
most s = (final s).amount

-- the first n jobs get less
abbrev pub lowered : ℕ → ℕ → List Job → List Job
lowered n t js = map (λ (j : Job). record { amount = j.amount - t; task = j.task }) (take n js) ++ drop n js

abbrev pub passed : ℕ → Merged → Merged
passed t s = record { width = s.width; left = s.left - t; jobs = lowered (length s.line) t s.jobs; line = s.line; taken = map (rule.lowered t) s.taken }

-- the job at place n goes if it has ended
abbrev pub unended : ℕ → List Job → List Job
unended n js = cond (eqb (get_or js n nothing).amount 0) (remove js n) js

abbrev pub take_over : Merged → Merged
take_over s = record { width = s.width; left = s.left; jobs = unended (length s.line - 1) (take (length s.jobs - 1) s.jobs); line = take (length s.line - 1) s.line; taken = s.taken ++ (rule.on (get_or s.line (length s.line - 1) 0) (final s) ∷ []) }

abbrev pub refill : Merged → Merged
refill s = record { width = s.width; left = s.left; jobs = drop 1 s.jobs; line = drop 1 s.line ++ take 1 s.line; taken = s.taken }

abbrev pub leaves : Merged → Merged
leaves s = record { width = s.width; left = s.left; jobs = drop 1 s.jobs; line = drop 1 s.line; taken = s.taken }

abbrev pub amount : Merged → ℕ → ℕ
amount s task = waiting_of task s.jobs + running_of task s.taken
