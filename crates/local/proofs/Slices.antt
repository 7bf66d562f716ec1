-- When two slices are the same.
use mathlib.Core.HLevel.{is_prop→PathP}
use Rattle.std.proofs.Common.{◌≡◌, sym, ap, ◌∙◌}
use native.Mathlib.Nat.{ℕ_set}
use Rattle.local.specs.declared.slice.Slice.{Slice}
use Rattle.local.specs.Masks.{mask}

-- a slice is told by its length and seats
pub slice_same : (z z' : Slice) → z.length ≡ z'.length → z.seats ≡ z'.seats → z ≡ z'
slice_same z z' a b = λ i. record { length = a i; seats = b i; busy = c i; masked = is_prop→PathP (λ k. c k ≡ mask (b k)) (λ k. ℕ_set (c k) (mask (b k))) z.masked z'.masked i }
  where
    c : z.busy ≡ z'.busy
    c = z.masked ∙ ap mask b ∙ sym z'.masked
