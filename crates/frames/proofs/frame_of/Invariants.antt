-- What was handed out so far is a run of the dispatcher that was launched, and within the frame.
use Rattle.std.proofs.Common.{◌≡◌, ◌-◌, ◌≤◌, List, vec_items}
use Rattle.dispatch.specs.Counts.{ticks}
use Rattle.dispatch.specs.Runs.{Call, Run, handed}
use Rattle.frames.proofs.frame_of.Given as goal

abbrev pub invariant-loop-done : goal.invariant-loop-done
invariant-loop-done g l = (calls : List Call) × Run g.S.LocalScheduler.meaning l.initial.run calls l.run × (handed calls ≡ vec_items l.slices) × (ticks (vec_items l.slices) ≡ l.done) × (l.done ≤ l.length)

abbrev pub decreases-loop-done : goal.decreases-loop-done
decreases-loop-done g l = l.length - l.done
