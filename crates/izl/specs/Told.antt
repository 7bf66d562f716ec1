-- What IZL tells as a local scheduler: what the rule tells of its state.
use Rattle.local.specs.Meaning.{Local}
use Rattle.izl_rule.specs.Meant.{meaning}
use Rattle.izl.specs.SoundState.{SoundState}

abbrev pub told : Local SoundState
told = record {
  width = λ s. meaning.width s.state;
  left = λ s. meaning.left s.state;
  amount = λ s. meaning.amount s.state;
  choice = λ s. meaning.choice s.state;
  allowance = λ s. meaning.allowance s.state;
  loads = λ s width len shares s'. meaning.loads s.state width len shares s'.state;
  steps = λ s s'. meaning.steps s.state s'.state;
}
