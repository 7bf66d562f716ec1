-- IZL as a local scheduler.
use Rattle.std.specs.Prelude.{◌≡◌, []}
use Rattle.local.specs.Meaning.{Local}
use Rattle.izl_rule.specs.Rule.{State, load, after, amount, choice, allowance}

abbrev pub meaning : Local State
meaning = record {
  width = λ s. s.width;
  left = λ s. s.left;
  amount = amount;
  choice = choice;
  allowance = allowance;
  loads = λ s width len shares s'. s' ≡ load width len shares;
  steps = λ s s'. s' ≡ after s;
}

abbrev pub new : State
new = record { width = 0; left = 0; running = []; waiting = []; taken = [] }
