-- The clauses of a local scheduler, told of the code's state.
use Rattle.std.proofs.Common.{◌≡◌, ℕ, ◌≤◌, List, sym, subst, arith}
use Rattle.local.specs.Meaning.{Handed, Fit, Loaded}
use Rattle.local.specs.declared.slice.Slice.{Slice}
use Rattle.wrap.specs.declared.state.Wrap.{Wrap}
use Rattle.wrap.specs.Wrap.{Interval, Laid, choice, after, loaded}
use Rattle.wrap.specs.Told.{view, told}
use Rattle.wrap.proofs.Meant.{meant, Good}
use Rattle.wrap.proofs.Handing.{handed, laid}
use Rattle.wrap.proofs.Loading.{line_sum, under_largest, load_told}

pub good : (s : Wrap) → Good (view s)
good s = record { wide = s.wide; within = s.within; size = s.full; narrow = λ i. omega (arith, under_largest s.shares i, s.narrow); room = omega (arith, line_sum s.shares, s.room) }

pub told_handed : (s s' : Wrap) (z : Slice) → 1 ≤ s.left → z ≡ choice (view s) → view s' ≡ after (view s) → Handed told s z s'
told_handed s s' z l a e = record {
  chosen = r.chosen;
  some = r.some;
  within = r.within;
  above_idle = r.above_idle;
  once = r.once;
  enough = r.enough;
  same_width = r.same_width;
  ticks = r.ticks;
  amounts = r.amounts;
  fits = r.fits;
  fewer = r.fewer;
  some_left = r.some_left;
  goes = e;
}
  where
    r : Handed meant (view s) z (view s')
    r = subst (λ (v : Interval). Handed meant (view s) z v) (sym e) (subst (λ (y : Slice). Handed meant (view s) y (after (view s))) (sym a) (handed (view s) (good s) l))

pub told_laid : (s : Wrap) (z : Slice) → 1 ≤ s.left → z ≡ choice (view s) → Laid (view s) z
told_laid s z l a = subst (Laid (view s)) (sym a) (laid (view s) (good s) l)

pub told_loaded : (s s' : Wrap) (width len : ℕ) (shares : List ℕ) → Fit width len shares → view s' ≡ loaded width len shares → Loaded told s width len shares s'
told_loaded s s' width len shares f e = record { fit = f; cores = r.cores; ticks = r.ticks; amounts = r.amounts; some_slice = r.some_slice; few_slices = r.few_slices; goes = e }
  where
    r : Loaded meant (view s) width len shares (view s')
    r = subst (λ (v : Interval). Loaded meant (view s) width len shares v) (sym e) (load_told width len shares f (view s))
