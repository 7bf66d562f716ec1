use Rattle.std.proofs.Common.{sym, subst}
use Rattle.izl_rule.specs.Rule.{State}
use Rattle.izl_rule.specs.Invariant.{Held, merged}
use Rattle.izl_rule.proofs.Passages.{a_passage}
use Rattle.izl.specs.View.{view}
use Rattle.izl.proofs.tables.Tables.step.Goals as goal

pub settle-requires : goal.settle-requires
settle-requires c = subst (λ (s : State). Held (merged s)) (sym c.advance.ensures) (a_passage (view c.args.self.now) c.requires).held
