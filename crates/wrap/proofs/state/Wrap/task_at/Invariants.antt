use Rattle.std.proofs.Common.{◌≡◌, ◌≤◌}
use Rattle.wrap.specs.Wrap.{line_end}
use Rattle.wrap.proofs.state.Wrap.task_at.Given as goal

abbrev pub invariant-loop-i : goal.invariant-loop-i
invariant-loop-i l = (l.start ≡ line_end l.self.shares l.i) × (l.start ≤ l.place)
