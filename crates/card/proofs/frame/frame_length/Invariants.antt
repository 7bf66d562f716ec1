use Rattle.std.proofs.Common.{◌≡◌, ◌+◌, drop}
use Rattle.card.specs.Verdicts.{lcm_with, judged_tasks}
use Rattle.card.proofs.frame.frame_length.Given as goal

abbrev pub invariant-loop-i : goal.invariant-loop-i
invariant-loop-i l =
    (judged_tasks l.multiple (l.i + 1) (drop l.i l.tasks) ≡ judged_tasks 1 1 l.tasks)
    × (lcm_with l.multiple (drop l.i l.tasks) ≡ lcm_with 1 l.tasks)
