use Rattle.std.proofs.Common.{◌≡◌}
use Rattle.wrap.specs.Wrap.{line_end, cut_by}
use Rattle.wrap.proofs.Cuts.{Least}
use Rattle.wrap.proofs.state.Wrap.next_cut.Given as goal

abbrev pub invariant-loop-share : goal.invariant-loop-share
invariant-loop-share l = (l.end ≡ line_end l.self.shares l.share-index) × Least (cut_by l.self.shares l.self.length l.share-index) l.past l.nearest
