use Rattle.std.proofs.Common.{take, sym, ◌∙◌, subst}
use Rattle.std.proofs.lemmas.Slice.Eq.{slice_eq-Decides}
use Rattle.output.specs.Printed.{Printed}
use Rattle.vectors.proofs.agrees.Goals as goal
use Rattle.std.proofs.lemmas.Bool.Decides.{Decides-eqb}

pub returns : goal.returns
returns c = λ same.
    let equal = (slice_eq-Decides Decides-eqb _ _ _ c.eq.ensures).0 same in
    subst (Printed (take 16908 c.args.plan.now)) (sym c.as_bytes.ensures.value ∙ equal) c.in_ok-text.ensures
