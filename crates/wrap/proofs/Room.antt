-- The line is no longer than the cores, which fit 32 bits.
use Rattle.std.proofs.Common.{◌≡◌, ℕ, zero, suc, ◌+◌, ◌-◌, ◌*◌, ◌^◌, ◌<◌, ◌≤◌, min, max, List, map, length, sum, ap, ◌∙◌, add-one, arith}
use native.Mathlib.Nat as law
use Rattle.std.specs.List.{range_with_len}
use Rattle.std.proofs.lemmas.List.Sums.{sum-map}
use Rattle.chart.proofs.Ranges.{upto_rises, sum_by_counting}
use Rattle.wrap.specs.declared.state.Wrap.{Wrap}
use Rattle.wrap.specs.Wrap.{share_at, line_end, meets, offset}
use Rattle.wrap.specs.Told.{view}
use Rattle.wrap.proofs.Loading.{line_sum}

-- one share more
pub line_more : (shares : List ℕ) (i : ℕ) → line_end shares (i + 1) ≡ line_end shares i + share_at shares i
line_more shares i = ap (line_end shares) (add-one i)

meets_short : (a b len x n : ℕ) → meets a b len x n ≤ n * len
meets_short a b len x zero = omega arith
meets_short a b len x (suc n) = omega (arith, meets_short a b len x n, law.suc-mul n len)

-- the places that core c still has from a up to b
abbrev pub places : Wrap → ℕ → ℕ → ℕ → ℕ
places s a b c = min b (c * s.length + s.length) - max a (c * s.length + offset (view s))

module _ (s : Wrap) where
  area_short : s.width * s.length ≤ 16000000
  area_short = law.mul-le-mul s.wide s.short

  pub line_short : (i : ℕ) → i ≤ 32 → line_end s.shares i ≤ 16000000
  line_short i l = omega (arith, upto_rises (share_at s.shares) i (length s.shares) (omega (arith, s.full)), line_sum s.shares, s.room, area_short)

  -- the places of a core
  pub core_short : (c : ℕ) → c < s.width → c * s.length + s.length ≤ 16000000
  core_short c l = omega (arith, law.suc-mul c s.length, law.mul-le-mul_right {m = suc c} {n = s.width} s.length l, area_short)

  pub places_all : (a b : ℕ) → sum (map (places s a b) (range_with_len 0 s.width)) ≡ meets a b s.length (offset (view s)) s.width
  places_all a b = sum-map (places s a b) (range_with_len 0 s.width) ∙ sum_by_counting (places s a b) s.width

  pub places_short : (a b : ℕ) → sum (map (places s a b) (range_with_len 0 s.width)) < 2 ^ 32
  places_short a b = omega (arith, places_all a b, meets_short a b s.length (offset (view s)) s.width, area_short)
