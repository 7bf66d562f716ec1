use Rattle.std.proofs.Common.{◌≡◌, ℕ, ◌<◌, ◌≤◌, true, false, ◌&&◌, eqb, leb, List, ◌++◌, length, take, drop, sym, refl, ap, ◌∙◌, subst, zero-add, arith}
use Rattle.std.proofs.lemmas.List.{take_at}
use Rattle.std.proofs.lemmas.Bool.{lt-leb}
use Rattle.refusal.specs.Table.{numbered}
use Rattle.card.specs.Verdicts.{Judged}
use Rattle.plan.specs.Plans.{Holds, file_for}
use Rattle.plan.proofs.Returned.{holds}
use Rattle.plan.proofs.Sizes.{length_file}
use Rattle.plan.proofs.Verdicts.{judged}
use Rattle.plan.proofs.writer.write.Goals as goal

pub returns-then-out-size : goal.returns-then-out-size
returns-then-out-size c =
    let note = c.args.note.now in
    let card = c.args.card.now in
    let sheet = c.args.sheet.now in
    let can : (leb (length note) 255 && eqb sheet.count card.count) ≡ true = sym c.if-not-can_write.ensures in
    let same : sheet.count ≡ card.count = omega arith in
    let over : length c.args.out.now < length (file_for note card sheet) = omega (arith, length_file note card sheet same) in
    let is = judged note card sheet (length c.args.out.now) false can (lt-leb (length (file_for note card sheet)) (length c.args.out.now) over) in
    record { judged = (ap numbered (sym is), refl); when = ap (λ (j : Judged). eqb j.0 0) (sym is); small = tt; back = tt }

pub returns-clause-judged : goal.returns-clause-judged
returns-clause-judged c =
    let note = c.args.note.now in
    let card = c.args.card.now in
    let sheet = c.args.sheet.now in
    let file = file_for note card sheet in
    let same : sheet.count ≡ card.count = omega arith in
    let size : c.size-size.result ≡ length file = c.size-size.ensures ∙ sym (length_file note card sheet same) in
    (size, c.put.ensures.is ∙ ap (λ (k : ℕ). file ++ drop k c.args.out.now) (zero-add (length file) ∙ sym size))

pub returns-clause-back : goal.returns-clause-back
returns-clause-back c =
    let note = c.args.note.now in
    let card = c.args.card.now in
    let sheet = c.args.sheet.now in
    let file = file_for note card sheet in
    let size = c.size-size.result in
    let same : sheet.count ≡ card.count = omega arith in
    let short : length note ≤ 255 = omega arith in
    let judged = returns-clause-judged c in
    let first : take size c.put.new.out ≡ file = ap (take size) judged.1 ∙ take_at file (drop size c.args.out.now) size (sym judged.0) in
    subst (λ (bs : List ℕ). Holds bs note card sheet) (sym first) (holds note card sheet short same c.put.ensures.tasks c.put.ensures.shares)
