-- One frame of a run.
use Rattle.std.specs.Prelude.{◌≡◌, ℕ, ◌^◌, ◌<◌, List, [], length}
use Rattle.refusal.specs.Table.{numbered, sheet_told}
use Rattle.card.specs.declared.types.Card.{Card}
use Rattle.card.specs.Cards.{Frame}
use Rattle.sheet.specs.declared.types.Sheet.{Sheet}
use Rattle.sheet.specs.Verdicts.{judged}
use Rattle.local.specs.Meaning.{Local}
use Rattle.dispatch.specs.declared.Stamped.{Stamped}
use Rattle.dispatch.specs.Counts.{ticks, switches_of, busy_ticks}
use Rattle.dispatch.specs.Promise.{Promise}
use Rattle.dispatch.specs.Runs.{Call, handed}
use Rattle.frames.specs.declared.FrameFault.{FrameFault}
use Rattle.frames.specs.declared.FrameFault.TheVariants.{Refused, Memory}

-- The slices are those of a run that is launched on this card and sheet with the scheduler s at frame `number`, and are that frame whole;
-- the tally is what they come to.
pub record FrameOf {S : Type 0} (m : Local S) (card : Card) (sheet : Sheet) (s : S) (number : ℕ) (slices : List Stamped) (tally : ℕ × ℕ × ℕ) : Type 0 where
  pub calls : List Call
  pub promise : Promise m card sheet s number calls
  pub all : handed calls ≡ slices
  pub whole : ticks slices ≡ promise.h
  pub tallied : tally ≡ (length slices, switches_of card promise.h 0 [] slices, busy_ticks slices)

-- a refusal is the plan's own; want of memory tells nothing of the plan
abbrev pub Told : Card → Sheet → FrameFault → Type 0
Told card sheet (Refused e) = sheet_told e ≡ numbered (judged card sheet)
Told card sheet (Memory _) = Unit {0}

-- the frame length of a card, which is short
pub record HasFrame (card : Card) (h : ℕ) : Type 0 where
  pub frame : Frame card h
  pub short : h < 2 ^ 32
