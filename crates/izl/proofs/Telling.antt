-- The slices that IZL hands out.
use Rattle.std.proofs.Common.{◌≡◌, ℕ, ◌≤◌, List, length, ap, ◌∙◌}
use Rattle.std.proofs.lemmas.Bool.{ltb-true}
use Rattle.local.specs.Masks.{seated_cores}
use Rattle.local.specs.Meaning.{Handed, Fit, Loaded}
use Rattle.local.specs.declared.slice.Slice.{Slice}
use Rattle.local.proofs.Intervals.{served, each}
use Rattle.izl_rule.specs.Rule.{choice, after, load}
use Rattle.izl_rule.specs.Meant.{meaning}
use Rattle.izl_rule.proofs.Handing.{handed, all_seated}
use Rattle.izl_rule.proofs.Loading.{loaded}
use Rattle.izl.specs.SoundState.{SoundState}
use Rattle.izl.specs.Told.{told}
use Rattle.izl.specs.Served.{Busy, Serves}

-- what the rule's states do, those of `Izl` do
pub handed_by_rule : (s s' : SoundState) (z : Slice) → Handed meaning s.state z s'.state → Handed told s z s'
handed_by_rule s s' z h = record {
  chosen = h.chosen;
  some = h.some;
  within = h.within;
  above_idle = h.above_idle;
  once = h.once;
  enough = h.enough;
  same_width = h.same_width;
  ticks = h.ticks;
  amounts = h.amounts;
  fits = h.fits;
  fewer = h.fewer;
  some_left = h.some_left;
  goes = h.goes;
}

pub loaded_by_rule : (s s' : SoundState) (width len : ℕ) (shares : List ℕ) → Loaded meaning s.state width len shares s'.state → Loaded told s width len shares s'
loaded_by_rule s s' width len shares l = record
    { fit = l.fit; cores = l.cores; ticks = l.ticks; amounts = l.amounts; some_slice = l.some_slice; few_slices = l.few_slices; goes = l.goes }

pub told_handed : (s s' : SoundState) (z : Slice) → 1 ≤ s.state.left → z ≡ choice s.state → s'.state ≡ after s.state → Handed told s z s'
told_handed s s' z l a e = handed_by_rule s s' z (rw (a, e) (handed s.state s.sound l))

pub told_loaded : (s s' : SoundState) (width len : ℕ) (shares : List ℕ) → Fit width len shares → s'.state ≡ load width len shares → Loaded told s width len shares s'
told_loaded s s' width len shares f e = loaded_by_rule s s' width len shares (rw e (loaded width len shares f s.state))

-- the slices of an interval
pub busy : (s s₁ : SoundState) (z : Slice) → Handed told s z s₁ → Busy s z
busy s s₁ z h wait = ap (λ (y : Slice). seated_cores y.seats) h.chosen ∙ all_seated s.state s.sound.held (ltb-true 0 (length s.state.waiting) wait)

pub serves : (s s₁ : SoundState) (width len : ℕ) (shares : List ℕ) → Loaded told s width len shares s₁ → Serves s₁ len shares
serves s s₁ width len shares l zs s' e = (served told s width len shares zs s' (s₁, l, e), each told Busy busy s₁ zs s' e)
