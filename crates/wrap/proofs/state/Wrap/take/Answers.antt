use Rattle.std.proofs.Common.{ℕ, ◌≤◌, List, length, sum, sym, ap, ◌∙◌, subst, arith}
use Rattle.wrap.specs.Wrap.{padded, largest}
use Rattle.wrap.proofs.Loading.{line_sum, largest_under, loaded_good}
use Rattle.wrap.proofs.Telling.{told_loaded}
use Rattle.wrap.proofs.state.Wrap.take.Goals as goal

pub invariant_of-self : goal.invariant_of-self
invariant_of-self c =
    let g = loaded_good c.args.width c.args.length c.args.shares.now c.requires in
    let xs = padded c.args.shares.now in
    let e = c.padded.ensures in
    record {
      wide = g.wide;
      short = c.requires.limits.3;
      within = omega arith;
      full = ap length e ∙ g.size;
      narrow = subst (λ (ys : List ℕ). largest ys ≤ c.args.length) (sym e) (largest_under xs c.args.length g.narrow);
      room = omega (arith, ap sum e, line_sum xs, g.room);
    }

pub returns : goal.returns
returns c = told_loaded c.args.self.now _ c.args.width c.args.length c.args.shares.now c.requires
    (ap (λ (xs : List ℕ). record { width = c.args.width; len = c.args.length; left = c.args.length; shares = xs }) c.padded.ensures)
