use Rattle.std.proofs.Common.{◌≡◌, ◌++◌, take, vec_items, string_bytes}
use Rattle.std.specs.List.{flat_map}
use Rattle.blocks.specs.Blocks.{line_text}
use Rattle.blocks.proofs.block.Given as goal

abbrev pub invariant-loop-stamped : goal.invariant-loop-stamped
invariant-loop-stamped g l = string_bytes l.text ≡ string_bytes l.initial.text ++ flat_map (line_text l.card.cores) (take l.stamped-index (vec_items l.frame.slices))
