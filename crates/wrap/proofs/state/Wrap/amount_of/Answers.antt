use Rattle.std.proofs.Common.{◌≡◌, ℕ, ◌+◌, ◌-◌, sym, ap, ◌∙◌, arith}
use Rattle.chart.proofs.Ranges.{sum_take}
use Rattle.wrap.specs.Wrap.{share_at, line_end, meets, amount, offset}
use Rattle.wrap.specs.Told.{view}
use Rattle.wrap.proofs.Amounts.{amount_meets}
use Rattle.wrap.proofs.state.Wrap.amount_of.Goals as goal

pub returns : goal.returns
returns c =
    let w = c.args.self.now in
    let i : ℕ = c.args.task - 1 in
    let start : c.line_end-start.result ≡ line_end w.shares i = c.line_end-start.ensures ∙ sum_take w.shares i in
    c.places_left.ensures
    ∙ ap (λ (a : ℕ). meets a (a + share_at w.shares i) w.length (offset (view w)) w.width) start
    ∙ sym (amount_meets w.shares w.length w.width i (offset (view w)) w.left (omega (arith, w.full, c.requires.from_one, c.requires.to_last)) (omega (arith, w.within)))
    ∙ ap (amount (view w)) (omega (arith, c.requires.from_one))
