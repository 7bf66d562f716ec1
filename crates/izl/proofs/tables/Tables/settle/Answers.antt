use Rattle.std.proofs.Common.{◌+◌, ◌-◌, ap, sym, ◌∙◌, subst}
use Rattle.izl_rule.specs.Rule.{State, ready}
use Rattle.izl_rule.specs.Invariant.{Held, merged}
use Rattle.izl_rule.proofs.Passages.{a_passage}
use Rattle.izl.specs.View.{view}
use Rattle.izl.proofs.Readying.{goes_on, stops}
use Rattle.izl.proofs.tables.Tables.settle.Goals as goal

pub loop-preserved : goal.loop-preserved
loop-preserved c =
    let s : State = view c.loop.self in record {
      held = subst (λ (x : State). Held (merged x)) (sym c.advance.ensures) (a_passage s c.loop.invariant.held).held;
      goes_on = ap (ready (c.len.result + c.len-2.result - (c.loop.counter + 1))) c.advance.ensures ∙ sym (goes_on _ c.loop.counter s c.loop-test.true (sym c.time.ensures ∙ c.if-time-ne0.false)) ∙ c.loop.invariant.goes_on;
    }

pub returns-then-time-ne0 : goal.returns-then-time-ne0
returns-then-time-ne0 c = sym (stops _ (view c.loop.self) (λ e. c.if-time-ne0.true (c.time.ensures ∙ e))) ∙ c.loop.invariant.goes_on
