use Rattle.std.proofs.Common.{◌≡◌, ℕ, List, Ok, Err, Result, MatchResult, IfOk, string_bytes, rules}
use Rattle.std.proofs.lemmas.Result.{IfOk-weaker, MatchResult-weaker}
use Rattle.frames.specs.declared.FrameFault.{FrameFault}
use Rattle.frames.specs.declared.FrameFault.TheVariants.{Refused, Memory}
use Rattle.output.specs.Printed.{LineOf, NoBlocks, PlanBlocks, Printed}
use Rattle.output.specs.Printed.Printed.{one_line, two_blocks}
use Rattle.output.proofs.frame_text.Goals as goal

refused_line : (bs text : List ℕ) (e : FrameFault) → NoBlocks bs e → LineOf e text → Printed bs text
refused_line bs text (Refused e) why line = one_line e why line
refused_line bs text (Memory _) why none = absurd none

one_of_both : {S A : Type 0} (text : S → List ℕ) (bs : List ℕ) (p : Result S FrameFault) (r : Result S A) → MatchResult p (λ t. PlanBlocks bs (text t)) (NoBlocks bs) → MatchResult p (λ t. r ≡ Ok t) (λ e. IfOk r (λ t. LineOf e (text t))) → IfOk r (λ t. Printed bs (text t))
one_of_both text bs (Ok t) r blocks e = rw e (two_blocks blocks)
one_of_both text bs (Err e) r why line = IfOk-weaker r _ _ (λ t. refused_line bs (text t) e why) line

pub returns : goal.returns
returns c =
    let called = MatchResult-weaker c.plan_text.result c.or_else.ensures (λ _ e. e) (λ _ h. search rules) in
    let printed = one_of_both string_bytes c.first_bytes.result.now c.plan_text.result c.or_else.result c.plan_text.ensures called in
    rw c.first_bytes.ensures at printed
