-- The slices of an interval that IZL has loaded.
use Rattle.std.specs.Prelude.{◌≡◌, ℕ, true, List}
use Rattle.local.specs.Intervals.{Slices, Served, Each}
use Rattle.local.specs.Masks.{seated_cores}
use Rattle.local.specs.declared.slice.Slice.{Slice}
use Rattle.izl_rule.specs.Rule.{waits}
use Rattle.izl.specs.SoundState.{SoundState}
use Rattle.izl.specs.Told.{told}

-- while a task waits all cores are busy
abbrev pub Busy : SoundState → Slice → Type 0
Busy s z = waits s.state ≡ true → seated_cores z.seats ≡ s.state.width

-- the slices that come from s on serve the shares, and all cores are busy in every tick while a task waits
abbrev pub Serves : SoundState → ℕ → List ℕ → Type 0
Serves s len shares = (zs : List Slice) (s' : SoundState) (e : Slices told s zs s') → Served len shares zs × Each told Busy s zs s' e
