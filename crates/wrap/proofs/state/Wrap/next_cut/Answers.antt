use Rattle.std.proofs.Common.{◌≡◌, ℕ, ◌+◌, ◌%◌, length, ap, subst, arith}
use Rattle.wrap.specs.Wrap.{share_at, line_end, cut_by}
use Rattle.wrap.proofs.Cuts.{Least, least_more, least_one, next_least}
use Rattle.wrap.proofs.Room.{line_more, line_short}
use Rattle.wrap.proofs.state.Wrap.next_cut.Goals as goal

pub overflow_add-end : goal.overflow_add-end
overflow_add-end c = omega (arith, c.loop-share.invariant.0, line_more c.args.self.now.shares c.loop-share.share-index, line_short c.args.self.now (c.loop-share.share-index + 1) (omega arith))

pub loop-share-preserved : goal.loop-share-preserved
loop-share-preserved c =
    let w = c.args.self.now in
    let i = c.loop-share.share-index in
    let e : c.loop-share.end + share_at w.shares i ≡ line_end w.shares (i + 1) = omega (arith, c.loop-share.invariant.0, line_more w.shares i) in
    (e, least_more w.shares w.length i c.args.past c.loop-share.nearest _ _ (ap (λ (p : ℕ). p % w.length) e) c.nearer-nearest.ensures c.loop-share.invariant.1)

pub returns : goal.returns
returns c =
    let w = c.args.self.now in
    let all : c.loop-share.share-index ≡ length w.shares = omega (arith, w.full, c.loop-share-test.false) in
    least_one _ _ _ _ (subst (λ (n : ℕ). Least (cut_by w.shares w.length n) c.args.past c.loop-share.nearest) all c.loop-share.invariant.1) (next_least w.shares w.length c.args.past c.requires)
