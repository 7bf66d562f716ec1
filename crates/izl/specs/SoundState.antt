-- What contracts see of an `Izl`: a state of the rule, and that it is sound.
use Rattle.izl_rule.specs.Rule.{State}
use Rattle.izl_rule.specs.Invariant.{Sound}

pub record SoundState : Type 0 where
  pub state : State
  pub sound : Sound state
