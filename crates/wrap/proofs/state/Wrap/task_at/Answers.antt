use Rattle.std.proofs.Common.{◌≡◌, ◌+◌, ◌<◌, length, sym, ap, ◌∙◌, add-one, arith}
use Rattle.std.proofs.lemmas.Bool.Decides.{nat_tests}
use Rattle.chart.proofs.Laying.{whose_is}
use Rattle.wrap.specs.Wrap.{share_at, line_end}
use Rattle.wrap.proofs.Steady.{behind_none}
use Rattle.wrap.proofs.Room.{line_more, line_short}
use Rattle.wrap.proofs.state.Wrap.task_at.Goals as goal

pub overflow_add-stretch : goal.overflow_add-stretch
overflow_add-stretch c = omega (arith, c.loop-i.invariant.0, line_more c.args.self.now.shares c.loop-i.i, line_short c.args.self.now (c.loop-i.i + 1) (omega arith))

pub returns-then-in_stretch : goal.returns-then-in_stretch
returns-then-in_stretch c =
    let w = c.args.self.now in
    let i = c.loop-i.i in
    let end : c.args.place < c.loop-i.start + share_at w.shares i = grind (arith, nat_tests, c.if-in_stretch.ensures) in
    add-one i
    ∙ sym (whose_is (share_at w.shares) (length w.shares) c.args.place i (omega (arith, w.full, c.loop-i-test.true)) (omega (arith, c.loop-i.invariant.0, c.loop-i.invariant.1)) (omega (arith, c.loop-i.invariant.0, end)))

pub returns : goal.returns
returns c =
    let w = c.args.self.now in
    let all : c.loop-i.i ≡ length w.shares = omega (arith, w.full, c.loop-i-test.false) in
    sym (behind_none (share_at w.shares) (length w.shares) c.args.place (omega (arith, c.loop-i.invariant.0, c.loop-i.invariant.1, ap (line_end w.shares) all)))
