-- The number table: layer, number and place of each refusal. Places count from 1; 0 stands for none.
use Rattle.std.specs.Prelude.{ℕ, cond, List, ◌++◌, codes, decimal, nat_lt}
use Rattle.refusal.specs.declared.Layer.{Layer}
use Rattle.refusal.specs.declared.Layer.TheVariants as layer
use Rattle.refusal.specs.declared.Refusal.{Refusal}
use Rattle.refusal.specs.declared.FileFault.{FileFault}
use Rattle.refusal.specs.declared.FileFault.TheVariants.{Stub, Counts, Layout, NoSpace}
use Rattle.refusal.specs.declared.CardFault.{CardFault}
use Rattle.refusal.specs.declared.CardFault.TheVariants.{File, Period, RunTime, LongFrame, Boundaries}
use Rattle.refusal.specs.declared.SheetFault.{SheetFault}
use Rattle.refusal.specs.declared.SheetFault.TheVariants.{Card, Rows, WideShare, Overfull, WrongTotal}
use Rattle.refusal.specs.declared.LocalFault.{LocalFault}
use Rattle.refusal.specs.declared.LocalFault.TheVariants.{Misfit, Over}
use Rattle.refusal.specs.declared.DispatchFault.{DispatchFault}
use Rattle.refusal.specs.declared.DispatchFault.TheVariants.{Empty, LastFrame, NoTask}

abbrev pub refusal : Layer → ℕ → ℕ → ℕ → Refusal
refusal l n a b = record { layer = l; number = n; place = (a, b) }

abbrev pub file_told : FileFault → Refusal
file_told Stub = refusal layer.File 1 0 0
file_told Counts = refusal layer.File 2 0 0
file_told Layout = refusal layer.File 3 0 0
file_told NoSpace = refusal layer.File 4 0 0

abbrev pub card_told : CardFault → Refusal
card_told (File e) = file_told e
card_told (Period task) = refusal layer.Card 11 task 0
card_told (RunTime task) = refusal layer.Card 12 task 0
card_told (LongFrame task) = refusal layer.Card 13 task 0
card_told Boundaries = refusal layer.Card 14 0 0

abbrev pub sheet_told : SheetFault → Refusal
sheet_told (Card e) = card_told e
sheet_told Rows = refusal layer.Sheet 21 0 0
sheet_told (WideShare interval task) = refusal layer.Sheet 22 interval task
sheet_told (Overfull interval) = refusal layer.Sheet 23 interval 0
sheet_told (WrongTotal task job) = refusal layer.Sheet 24 task job

abbrev pub local_told : LocalFault → Refusal
local_told Misfit = refusal layer.Local 31 0 0
local_told Over = refusal layer.Local 32 0 0

abbrev pub dispatch_told : DispatchFault → Refusal
dispatch_told Empty = refusal layer.Dispatch 41 0 0
dispatch_told LastFrame = refusal layer.Dispatch 42 0 0
dispatch_told NoTask = refusal layer.Dispatch 43 0 0

-- the word that is printed for a layer
abbrev pub layer_text : Layer → List ℕ
layer_text layer.File = codes "file"
layer_text layer.Card = codes "card"
layer_text layer.Sheet = codes "sheet"
layer_text layer.Local = codes "local"
layer_text layer.Dispatch = codes "dispatch"

-- the text of a refusal, as `refused sheet 24 2 1`
abbrev pub refusal_text : Refusal → List ℕ
refusal_text r = codes "refused " ++ (layer_text r.layer ++ (codes " " ++ (decimal r.number ++ (codes " " ++ (decimal r.place.0 ++ (codes " " ++ decimal r.place.1))))))

-- the layer by the number: the tens tell it
abbrev pub layer_of : ℕ → Layer
layer_of n = cond (nat_lt n 10) layer.File (cond (nat_lt n 20) layer.Card (cond (nat_lt n 30) layer.Sheet (cond (nat_lt n 40) layer.Local layer.Dispatch)))

-- a number and its place as a refusal
abbrev pub numbered : ℕ × ℕ × ℕ → Refusal
numbered j = refusal (layer_of j.0) j.0 j.1 j.2
