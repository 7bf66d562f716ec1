-- The promise of every run, from what the placement's own fact gives.
use Rattle.std.proofs.Common.{ℕ, ◌^◌, ◌<◌, List, arith}
use Rattle.card.specs.declared.types.Card.{Card}
use Rattle.sheet.specs.declared.types.Sheet.{Sheet}
use Rattle.sheet.specs.declared.placement.Placement.{Placement}
use Rattle.sheet.specs.Held.{Holds}
use Rattle.card.specs.Cards.{tasks_of}
use Rattle.card.specs.Verdicts.{frame_of}
use Rattle.card.proofs.CardsJudged.{lawful_frame}
use Rattle.card.proofs.Frames.{frame_one}
use Rattle.sheet.specs.Verdicts.{Meets}
use Rattle.sheet.proofs.Holding.{held_good}
use Rattle.local.specs.Meaning.{Local}
use Rattle.dispatch.specs.declared.state.Dispatcher.{Dispatcher}
use Rattle.dispatch.specs.Promise.{Promised}
use Rattle.dispatch.specs.Runs.{Call, Run, Begun}
use Rattle.dispatch.proofs.Goods.{Good}
use Rattle.dispatch.proofs.Accepted.{good_of}
use Rattle.dispatch.proofs.Promised.{promise_of_runs}

pub meets_held : (p : Placement) (card : Card) (sheet : Sheet) → Holds p card sheet → Meets card (frame_of (tasks_of card)) sheet
meets_held p card sheet held = (held_good p card sheet held).1

pub good_held : (p : Placement) (card : Card) (sheet : Sheet) → Holds p card sheet → Good card (frame_of (tasks_of card)) sheet
good_held p card sheet held =
    let g = held_good p card sheet held in
    let frame = lawful_frame card g.0 in
    let same = frame_one card g.0.frame (frame_of (tasks_of card)) g.0.is_frame frame in
    good_of card (frame_of (tasks_of card)) sheet frame (omega (arith, same, g.0.short)) g.1

pub promise_of_placement : {S : Type 0} (m : Local S) (p : Placement) (s : S) (first : ℕ) (d₀ e : Dispatcher S) (calls : List Call) → first < 2 ^ 32 → Begun p s first d₀ → Run m d₀ calls e → Promised m p s first calls
promise_of_placement m p s first d₀ e calls early begun run = promise_of_runs m p s first d₀ e calls (λ card sheet held. (frame_of (tasks_of card), good_held p card sheet held)) early begun run
