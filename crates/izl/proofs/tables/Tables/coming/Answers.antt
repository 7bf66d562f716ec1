use Rattle.std.proofs.Common.{sym, subst}
use Rattle.izl.specs.View.{view, Passes}
use Rattle.izl.proofs.ByKind.{passes}
use Rattle.izl.proofs.tables.Tables.coming.Goals as goal

pub returns : goal.returns
returns c = subst (Passes (view c.args.self.now)) (sym c.passage_by.ensures) (passes (view c.args.self.now) c.requires _ _ c.first_amount.ensures c.last_amount.ensures)
