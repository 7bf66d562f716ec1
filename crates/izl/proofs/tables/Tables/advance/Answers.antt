use Rattle.std.proofs.Common.{ℕ, ◌≤◌, sym, subst, arith}
use Rattle.std.specs.List.{AllByRecursion}
use Rattle.izl_rule.specs.declared.Running.{Running}
use Rattle.izl_rule.specs.Rule.{State}
use Rattle.izl_rule.proofs.Times.{time_left, running_enough, taken_enough}
use Rattle.izl.specs.View.{view}
use Rattle.izl.proofs.ByKind.{still}
use Rattle.izl.proofs.tables.Tables.advance.Goals as goal

pub pass-requires : goal.pass-requires
pass-requires c =
    let s : State = view c.args.self.now in
    let e = sym c.coming-ticks.ensures.time in record {
      left = omega (arith, e, time_left s c.requires);
      running = subst (λ (n : ℕ). AllByRecursion (λ (r : Running). n ≤ r.amount) s.running) e (running_enough s c.requires);
      taken = subst (λ (n : ℕ). AllByRecursion (λ (r : Running). n ≤ r.amount) s.taken) e (taken_enough s c.requires);
    }

pub turn-requires : goal.turn-requires
turn-requires c = still (view c.args.self.now) _ _ _ c.coming-ticks.ensures.able c.pass.ensures
