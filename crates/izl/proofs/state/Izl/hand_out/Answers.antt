use Rattle.std.proofs.Common.{ap, arith}
use Rattle.izl_rule.proofs.Handing.{after_sound}
use Rattle.izl.specs.SoundState.{SoundState}
use Rattle.izl.proofs.Telling.{told_handed, busy}
use Rattle.izl.proofs.state.Izl.hand_out.Goals as goal

pub invariant_of-self-inside : goal.invariant_of-self-inside
invariant_of-self-inside c = rw c.step.ensures.does (after_sound _ c.self.inside.sound (omega (arith, ap (λ (s : SoundState). s.state.left) c.self.view_is, c.requires)), tt)

pub returns : goal.returns
returns c =
    let h = told_handed c.args.self.now _ c.step.result c.requires (rw (← c.self.view_is) c.step.ensures.chosen) (rw (← c.self.view_is) c.step.ensures.does) in
    record { handed = h; busy = busy c.args.self.now _ c.step.result h }
