use Rattle.std.proofs.Common.{◌-◌, ap, arith}
use Rattle.local.specs.declared.slice.Slice.{Slice}
use Rattle.wrap.specs.Told.{view}
use Rattle.wrap.proofs.Handing.{t_within}
use Rattle.wrap.proofs.Telling.{good, told_handed, told_laid}
use Rattle.wrap.proofs.state.Wrap.hand_out.Goals as goal

pub overflow_sub-self : goal.overflow_sub-self
overflow_sub-self c =
    let w = c.args.self.now in
    omega (arith, ap (λ (z : Slice). z.length) c.chosen-slice.ensures, t_within (view w) (good w) c.requires)

pub returns : goal.returns
returns c =
    let w = c.args.self.now in
    let e = c.chosen-slice.ensures in
    record {
      handed = told_handed w _ _ c.requires e (ap (λ (z : Slice). record { width = w.width; len = w.length; left = w.left - z.length; shares = w.shares }) e);
      laid = told_laid w _ c.requires e;
    }
