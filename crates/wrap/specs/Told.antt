-- What wrap-round tells as a local scheduler: its rule, exactly.
use Rattle.std.specs.Prelude.{◌≡◌}
use Rattle.local.specs.Meaning.{Local}
use Rattle.wrap.specs.declared.state.Wrap.{Wrap}
use Rattle.wrap.specs.Wrap.{Interval, amount, choice, allowance, loaded, after}

-- the state as a plain interval
abbrev pub view : Wrap → Interval
view s = record { width = s.width; len = s.length; left = s.left; shares = s.shares }

-- loads and steps tell the whole state that a load and a next lead to
abbrev pub told : Local Wrap
told = record {
  width = λ s. s.width;
  left = λ s. s.left;
  amount = λ s. amount (view s);
  choice = λ s. choice (view s);
  allowance = λ s. allowance (view s);
  loads = λ s width len shares s'. view s' ≡ loaded width len shares;
  steps = λ s s'. view s' ≡ after (view s);
}
