use Rattle.std.proofs.Common.{ℕ, ◌-◌, ap, ◌∙◌, arith}
use Rattle.wrap.specs.Wrap.{next_cut}
use Rattle.wrap.proofs.Cuts.{next_least}
use Rattle.local.proofs.Slices.{slice_same}
use Rattle.wrap.proofs.state.Wrap.chosen.Goals as goal

pub overflow_sub-next_cut : goal.overflow_sub-next_cut
overflow_sub-next_cut c =
    let w = c.args.self.now in
    omega (arith, c.next_cut.ensures, (next_least w.shares w.length c.offset-x.result (omega (arith, c.offset-x.ensures, w.within, c.requires))).above)

pub returns : goal.returns
returns c =
    let w = c.args.self.now in
    slice_same _ _
    (c.new.ensures.fields.0 ∙ ap (λ (y : ℕ). y - c.offset-x.result) c.next_cut.ensures ∙ ap (λ (x : ℕ). next_cut w.shares w.length x - x) c.offset-x.ensures)
    (c.new.ensures.fields.1 ∙ c.seats.ensures)
