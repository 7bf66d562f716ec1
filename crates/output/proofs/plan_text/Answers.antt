use Rattle.std.proofs.Common.{ℕ, List, ap, ◌∙◌}
use Rattle.std.proofs.lemmas.Result.{MatchResult-weaker}
use Rattle.refusal.specs.declared.Refusal.{Refusal}
use Rattle.card.specs.declared.types.Card.{Card}
use Rattle.card.specs.Verdicts.{Judged}
use Rattle.sheet.specs.declared.types.Sheet.{Sheet}
use Rattle.sheet.proofs.Answered.{sheet_bad}
use Rattle.startup.specs.Startup.{PlanIn}
use Rattle.startup.specs.Startup.RefusedPlan.{by_plan}
use Rattle.frames.specs.declared.FrameFault.{FrameFault}
use Rattle.frames.specs.declared.FrameFault.TheVariants.{Refused, Memory}
use Rattle.frames.specs.Frames.{Told}
use Rattle.output.specs.Printed.{NoBlocks}
use Rattle.output.proofs.plan_text.Goals as goal

-- a plan that is refused is not fine, since no fault has the number 0
no_blocks : (bs : List ℕ) (card : Card) (sheet : Sheet) → PlanIn bs card sheet → (e : FrameFault) → Told card sheet e → NoBlocks bs e
no_blocks bs card sheet holds (Refused e) told = by_plan card sheet holds (λ f. sheet_bad e (ap (λ (r : Refusal). r.number) told ∙ ap (λ (j : Judged). j.0) f)) told
no_blocks bs card sheet holds (Memory _) told = tt

pub returns : goal.returns
returns c =
    let card = c.in_ok-card.card in
    let sheet = c.in_ok-card.sheet in
    let holds = c.in_ok-card.ensures in
    MatchResult-weaker c.both_blocks.result c.both_blocks.ensures
    (λ t blocks. record { card = card; sheet = sheet; holds = holds; blocks = blocks })
    (no_blocks c.args.bytes.now card sheet holds)
