-- All that is printed for the bytes of a plan.
use Rattle.std.specs.Prelude.{◌≡◌, ℕ, List, ◌++◌}
use Rattle.refusal.specs.declared.SheetFault.{SheetFault}
use Rattle.refusal.specs.Table.{sheet_told}
use Rattle.card.specs.declared.types.Card.{Card}
use Rattle.sheet.specs.declared.types.Sheet.{Sheet}
use Rattle.local.specs.Meaning.{Local, Fresh}
use Rattle.izl.specs.Told as izl
use Rattle.wrap.specs.Told as wrap
use Rattle.dispatch.specs.declared.Stamped.{Stamped}
use Rattle.startup.specs.Startup.{PlanIn, RefusedPlan}
use Rattle.frames.specs.declared.FrameFault.{FrameFault}
use Rattle.frames.specs.declared.FrameFault.TheVariants.{Refused, Memory}
use Rattle.frames.specs.Frames.{FrameOf}
use Rattle.text.specs.Lines.{refused_text}
use Rattle.blocks.specs.Blocks.{block_text}

-- frame 0 of an accepted plan under a new scheduler, as its block of text
pub record Block {S : Type 0} (m : Local S) (letter : ℕ) (card : Card) (sheet : Sheet) (text : List ℕ) : Type 0 where
  pub scheduler : S
  pub new : Fresh m scheduler
  pub slices : List Stamped
  pub tally : ℕ × ℕ × ℕ
  pub frame : FrameOf m card sheet scheduler 0 slices tally
  pub shown : text ≡ block_text letter card sheet slices tally

-- IZL's block, letter I, then wrap-round's, letter W
pub record BothBlocks (card : Card) (sheet : Sheet) (text : List ℕ) : Type 0 where
  pub first : List ℕ
  pub second : List ℕ
  pub by_izl : Block izl.told 73 card sheet first
  pub by_wrap : Block wrap.told 87 card sheet second
  pub both : text ≡ first ++ second

-- the blocks of the plan that a file holds
pub record PlanBlocks (bs text : List ℕ) : Type 0 where
  pub card : Card
  pub sheet : Sheet
  pub holds : PlanIn bs card sheet
  pub blocks : BothBlocks card sheet text

-- why there are no blocks: the plan is refused, or there is no memory
abbrev pub NoBlocks : List ℕ → FrameFault → Type 0
NoBlocks bs (Refused e) = RefusedPlan bs e
NoBlocks bs (Memory _) = Unit {0}

-- the line of a refusal; there is none for want of memory
abbrev pub LineOf : FrameFault → List ℕ → Type 0
LineOf (Refused e) text = text ≡ refused_text (sheet_told e)
LineOf (Memory _) text = ⊥

-- the line of the first check that fails, or the blocks
pub data Printed (bs text : List ℕ) : Type 0 where
  one_line : (e : SheetFault) → RefusedPlan bs e → text ≡ refused_text (sheet_told e) → Printed bs text
  two_blocks : PlanBlocks bs text → Printed bs text
