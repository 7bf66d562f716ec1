-- The text of a frame under one scheduler.
use Rattle.std.specs.Prelude.{ℕ, List, ◌++◌, take}
use Rattle.std.specs.List.{flat_map}
use Rattle.card.specs.declared.types.Card.{Card}
use Rattle.sheet.specs.declared.types.Sheet.{Sheet}
use Rattle.dispatch.specs.declared.Stamped.{Stamped}
use Rattle.text.specs.Lines.{head_text, slice_text, sum_text}

-- the line of a slice, with the seats of these cores
abbrev pub line_text : ℕ → Stamped → List ℕ
line_text cores z = slice_text z.stamp z.slice.length (take cores z.slice.seats)

-- letter, M, N and K; the slices; their sum
abbrev pub block_text : ℕ → Card → Sheet → List Stamped → ℕ × ℕ × ℕ → List ℕ
block_text letter card sheet slices tally = (head_text letter card.cores card.count sheet.rows ++ flat_map (line_text card.cores) slices) ++ sum_text tally.0 tally.1 tally.2
