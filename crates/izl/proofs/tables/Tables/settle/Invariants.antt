use Rattle.std.proofs.Common.{◌≡◌, ◌-◌}
use Rattle.izl_rule.specs.Rule.{ready, settled}
use Rattle.izl_rule.specs.Invariant.{Held, merged}
use Rattle.izl.specs.View.{view}
use Rattle.izl.proofs.tables.Tables.settle.Given as goal

abbrev pub invariant-loop : goal.invariant-loop
invariant-loop l = record {
  held : Held (merged (view l.self));
  goes_on : ready (l.end - l.counter) (view l.self) ≡ settled (view l.initial.self);
}
