use Rattle.std.proofs.Common.{◌≡◌, ℕ, ◌*◌, drop, sym, ap, ◌∙◌, arith, rules}
use Rattle.std.proofs.lemmas.List.{take_all, take_at, take_rest, places}
use Rattle.plan.specs.File.{parts}
use Rattle.plan.proofs.Parts.{turn}
use Rattle.plan.proofs.reader.read_all.Goals as goal

pub loop-i-preserved : goal.loop-i-preserved
loop-i-preserved g c =
    let l = c.loop-i in
    let bs = c.args.bytes.now in
    let coded = g.T.Coded in
    let behind = take_rest bs (c.WIDTH.result * l.i) ∙ ap (λ (w : ℕ). drop (w * l.i) bs) c.WIDTH.ensures in
    let so = turn coded.WIDTH coded.decode coded.code l.i bs _ l.place-items c.first.result behind (omega (arith, l.auto.place-items)) l.invariant.0 l.invariant.1 c.first.ensures.is c.first.ensures.back in
    (so.0, so.1, search (rules, places))

pub returns-clause-items : goal.returns-clause-items
returns-clause-items g c =
    let l = c.loop-i in
    let coded = g.T.Coded in
    let end : l.i ≡ c.args.n = omega (arith, l.auto, l.invariant.2) in
    take_at l.place-items _ c.args.n l.invariant.2 ∙ sym (take_all l.i l.place-items (omega (arith, l.invariant.2))) ∙ l.invariant.0
    ∙ ap (λ (k : ℕ). parts coded.WIDTH coded.decode k c.args.bytes.now) end
