use Rattle.std.proofs.Common.{rules, ◌≡◌, refl}
use Rattle.chart.proofs.Built.{built_whole}
use Rattle.wrap.specs.Wrap.{seat_at, offset}
use Rattle.wrap.specs.Told.{view}
use Rattle.wrap.proofs.state.Wrap.seats.Goals as goal

pub returns : goal.returns
returns c =
    let w = c.args.self.now in
    built_whole _ (λ s. s.0.now ≡ w) (seat_at w.shares w.width w.length (offset (view w))) (λ s t k y p called. search rules) 16 _ c.from_fn.result refl c.from_fn.ensures.items 0
