use Rattle.std.proofs.Common.{Bool, cond, [], replicate, sym, ap, ◌∙◌}
use Rattle.dispatch.specs.Counts.{changed}
use Rattle.dispatch.proofs.Entries.{changed_idle, changed_zip}
use Rattle.dispatch.proofs.accounts.switches_to.Goals as goal

pub returns-then-first : goal.returns-then-first
returns-then-first c =
    c.switches.ensures ∙ sym (changed_zip (replicate 16 0) c.args.seats.now (sym c.told-seats)) ∙ changed_idle 16 c.args.seats.now
    ∙ ap (λ (b : Bool). changed (cond b [] c.args.before.now) c.args.seats.now) (sym c.if-first.true)

pub returns-else-first : goal.returns-else-first
returns-else-first c =
    c.switches-else-first.ensures ∙ sym (changed_zip c.args.before.now c.args.seats.now (c.told-before ∙ sym c.told-seats))
    ∙ ap (λ (b : Bool). changed (cond b [] c.args.before.now) c.args.seats.now) (sym c.if-first.false)
