use Rattle.std.proofs.Common.{◌<◌, ap, ◌∙◌, sym, subst}
use Rattle.std.specs.List.{AllByRecursion}
use Rattle.izl_rule.specs.declared.Running.{Running}
use Rattle.izl.specs.View.{view, seated_over}
use Rattle.izl.proofs.Slicing.{running_low, seats_are}
use Rattle.izl.proofs.tables.Tables.seats.Goals as goal

pub seat_all-requires-2 : goal.seat_all-requires-2
seat_all-requires-2 c = subst (AllByRecursion (λ (r : Running). r.core < 16)) (sym c.as_slice-2.ensures.value) (running_low (view c.args.self.now) c.requires)

pub returns : goal.returns
returns c =
    seats_are (view c.args.self.now) c.seat_all.new.seats c.seat_all-2.new.seats (c.seat_all.ensures ∙ ap (seated_over _) c.as_slice.ensures.value)
    (c.seat_all-2.ensures ∙ ap (seated_over c.seat_all.new.seats) c.as_slice-2.ensures.value)
