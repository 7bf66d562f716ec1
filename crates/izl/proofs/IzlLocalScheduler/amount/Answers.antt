use Rattle.izl_rule.proofs.Handing.{amount_fits}
use Rattle.izl.specs.View.{view}
use Rattle.izl.proofs.IzlLocalScheduler.amount.Goals as goal

pub amount_of-requires : goal.amount_of-requires
amount_of-requires c = amount_fits (view c.self.inside.tables) c.self.inside.sound.held c.args.task
