use Rattle.std.proofs.Common.{◌≡◌, ◌<◌, true, is_ok, Ok, Err, Option, Result, MatchResult, sym, refl, subst}
use Rattle.card.specs.declared.types.Card.{Card}
use Rattle.sheet.specs.declared.types.Sheet.{Sheet}
use Rattle.sheet.specs.Held.{held, rows_in}
use Rattle.local.specs.Meaning.{Fit}
use Rattle.dispatch.proofs.Filled.{Load, by_row, meant_by, fit_there}
use Rattle.dispatch.proofs.load_interval.Goals as goal

taken : {A E : Type 0} (r : Result A E) (P : A → Type 0) (Q : E → Type 0) → MatchResult r P Q → ((e : E) → Q e → ⊥) → is_ok r ≡ true
taken (Ok x) P Q given never = refl
taken (Err e) P Q given never = absurd (never e given)

pub unwrap-requires : goal.unwrap-requires
unwrap-requires g c =
    let p = c.args.placement.now in
    let k = c.args.interval in
    let q = by_row (held p) k c.requires in
    let within : k < q.1.rows = subst (λ (o : Option (Card × Sheet)). k < rows_in o) q.2 c.requires in
    let args = meant_by p q.0 q.1 q.2 k within c.cores.result c.length_of-length.result c.row_of.result.now c.cores.ensures c.length_of-length.ensures c.row_of.ensures in
    let fits = (subst (λ (l : Load). Fit l.0 l.1 l.2) (sym args) (fit_there p q.0 q.1 q.2 k within)) in
    taken c.load.result _ _ c.load.ensures (λ e refused. refused.1 fits)
