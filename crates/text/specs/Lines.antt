-- The lines that are printed of a frame: decimal numbers, one space between fields, a line feed after each line.
use Rattle.std.specs.Prelude.{ℕ, List, ◌++◌, codes, decimal}
use Rattle.std.proofs.Math.Utf8.{encode}
use Rattle.std.specs.List.{flat_map}
use Rattle.refusal.specs.declared.Refusal.{Refusal}
use Rattle.refusal.specs.Table.{refusal_text}

abbrev pub feed : List ℕ
feed = codes "\n"

-- a field after a space
abbrev pub field : ℕ → List ℕ
field n = codes " " ++ decimal n

abbrev pub seat_text : ℕ → List ℕ
seat_text task = field task

-- letter M N K
abbrev pub head_text : ℕ → ℕ → ℕ → ℕ → List ℕ
head_text letter m n k = encode letter ++ (codes " " ++ (decimal m ++ (codes " " ++ (decimal n ++ (codes " " ++ (decimal k ++ feed))))))

-- stamp, length and the seats
abbrev pub slice_text : ℕ → ℕ → List ℕ → List ℕ
slice_text stamp len seats = (decimal stamp ++ (codes " " ++ decimal len)) ++ (flat_map seat_text seats ++ feed)

-- sum, slices, switches, busy ticks
abbrev pub sum_text : ℕ → ℕ → ℕ → List ℕ
sum_text slices switches busy = codes "sum " ++ (decimal slices ++ (codes " " ++ (decimal switches ++ (codes " " ++ (decimal busy ++ feed)))))

abbrev pub refused_text : Refusal → List ℕ
refused_text r = refusal_text r ++ feed
