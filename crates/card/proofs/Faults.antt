-- A fault that is told is the first of all checks, since no fault has the number 0.
use Rattle.std.proofs.Common.{◌≡◌, false, eqb, sym, ap, ◌∙◌, arith}
use Rattle.std.proofs.lemmas.Bool.{cond-true, cond-false, eq-eqb, ne_eqb}
use Rattle.refusal.specs.Table.{file_told, card_told, numbered}
use Rattle.refusal.specs.declared.Refusal.{Refusal}
use Rattle.refusal.specs.declared.FileFault.{FileFault}
use Rattle.refusal.specs.declared.FileFault.TheVariants.{Stub, Counts, Layout, NoSpace}
use Rattle.refusal.specs.declared.CardFault.{CardFault}
use Rattle.refusal.specs.declared.CardFault.TheVariants.{File, Period, RunTime, LongFrame, Boundaries}
use Rattle.card.specs.Verdicts.{Judged, fine, or_else}

file_numbered : (e : FileFault) → (file_told e).number ≡ 0 → ⊥
file_numbered Stub z = omega arith
file_numbered Counts z = omega arith
file_numbered Layout z = omega arith
file_numbered NoSpace z = omega arith

pub fault_numbered : (e : CardFault) → (card_told e).number ≡ 0 → ⊥
fault_numbered (File e) z = file_numbered e z
fault_numbered (Period task) z = omega arith
fault_numbered (RunTime task) z = omega arith
fault_numbered (LongFrame task) z = omega arith
fault_numbered Boundaries z = omega arith

-- the judgement that a fault tells is not fine
pub told_not_fine : (e : CardFault) (j : Judged) → card_told e ≡ numbered j → eqb j.0 0 ≡ false
told_not_fine e j t = ne_eqb j.0 0 (λ z. fault_numbered e (ap (λ (r : Refusal). r.number) t ∙ z))

pub told_first : (e : CardFault) (j k : Judged) → card_told e ≡ numbered j → card_told e ≡ numbered (or_else j k)
told_first e j k t = t ∙ ap numbered (sym (cond-false (eqb j.0 0) k j (told_not_fine e j t)))

pub fine_next : (j k : Judged) → j ≡ fine → or_else j k ≡ k
fine_next j k f = cond-true (eqb j.0 0) k j (eq-eqb j.0 0 (ap (λ (r : Judged). r.0) f))
