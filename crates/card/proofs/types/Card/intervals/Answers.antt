use Rattle.std.proofs.Common.{◌≡◌, ℕ, ◌<◌, List, length, ap, ◌∙◌, subst, ap₂}
use Rattle.std.proofs.lemmas.Result.{MatchResult-weaker, err_from_is_err_and}
use Rattle.refusal.specs.Table.{card_told, numbered}
use Rattle.card.specs.declared.types.Task.{Task}
use Rattle.card.specs.Cards.{tasks_of, releases}
use Rattle.card.specs.Verdicts.{fine, frame_of, judged_tasks}
use Rattle.card.proofs.Checks.{Answered, answered_exactly, sound_tasks, task_fault, crowd_fault, no_fault}
use Rattle.card.proofs.types.Card.intervals.Goals as goal

pub returns-in_err-frame : goal.returns-in_err-frame
returns-in_err-frame c =
    let card = c.args.self.now in
    let q = err_from_is_err_and c.from_residual.result c.from_residual.ensures.1 in
    let told = c.in_err-frame.ensures ∙ ap (λ (ts : List Task). numbered (judged_tasks 1 1 ts)) c.tasks-tasks.ensures.all in
    let a : Answered card c.from_residual.result = rw (q.1, q.2) (task_fault card c.in_err-frame.field-0.0 told) in
    record { judged = a; lawful = answered_exactly card c.from_residual.result a }

pub intervals_of-requires : goal.intervals_of-requires
intervals_of-requires c = (sound_tasks c.tasks-tasks.result.now c.in_ok-frame.ensures.0).0

pub returns : goal.returns
returns c =
    let card = c.args.self.now in
    let all = c.tasks-tasks.ensures.all in
    let ok = c.in_ok-frame.ensures in
    let f : judged_tasks 1 1 (tasks_of card) ≡ fine = subst (λ (ts : List Task). judged_tasks 1 1 ts ≡ fine) all ok.0 in
    let h : c.in_ok-frame.frame ≡ frame_of (tasks_of card) = ok.1 ∙ ap frame_of all in
    let same : releases c.tasks-tasks.result.now c.in_ok-frame.frame ≡ releases (tasks_of card) (frame_of (tasks_of card)) = ap₂ releases all h in
    let a : Answered card c.intervals_of.result = MatchResult-weaker c.intervals_of.result c.intervals_of.ensures
    (λ v p. no_fault card f v (p.0 ∙ h) (p.1 ∙ same))
    (λ e q. ap card_told q.0 ∙ crowd_fault card f (subst (λ (xs : List ℕ). 128 < length xs) same q.1)) in
    record { judged = a; lawful = answered_exactly card c.intervals_of.result a }
