-- The busy mask bit by bit, and its ones.
use Rattle.std.proofs.Common.{◌≡◌, ℕ, zero, suc, ◌+◌, ◌*◌, ◌/◌, ◌%◌, ◌^◌, ◌<◌, ◌≤◌, Bool, true, false, cond, ltb, List, [], ◌∷◌, ◌++◌, length, get_or, take, sym, refl, ap, ◌∙◌, le_of_suc-le-suc, not-suc-le-zero, mul_assoc, one-mul, pow-suc, one-add, arith}
use lib.Count.{ones, ones_step}
use lib.Bits.{bit_or}
use Rattle.std.proofs.lemmas.List.Sums.{sum_by-cons}
use Rattle.std.proofs.lemmas.Nat.{or_shifted, or_comm, one_shl, shr-shr}
use Rattle.std.proofs.lemmas.List.{take_more, length-take-le}
use Rattle.std.proofs.lemmas.Bool.{cond_both}
use Rattle.local.specs.declared.slice.Slice.{Slice}
use Rattle.local.specs.Masks.{bit, mask, seated_cores}

bit_le : (s : ℕ) → bit s ≤ 1
bit_le s = elim (ltb 0 s) as (λ b. cond b 1 0 ≤ 1) [ true ↦ omega arith | false ↦ omega arith ]

mask_lt : (xs : List ℕ) → mask xs < 2 ^ length xs
mask_lt [] = omega arith
mask_lt (x ∷ xs) = omega (arith, mask_lt xs, bit_le x, pow-suc 2 (length xs))

mask_push : (xs : List ℕ) (y : ℕ) → mask (xs ++ y ∷ []) ≡ mask xs + bit y * 2 ^ length xs
mask_push [] y = omega arith
mask_push (x ∷ xs) y = rw pow-suc (omega (arith, mask_push xs y, mul_assoc (bit y) (2 ^ length xs) 2))

low : (x m : ℕ) → (bit x + 2 * m) % 2 ≡ bit x
low x m = omega (arith, bit_le x)

high : (x m : ℕ) → (bit x + 2 * m) / 2 ≡ m
high x m = omega (arith, bit_le x)

-- the ones of the mask are the seated cores
pub ones_mask : (xs : List ℕ) → ones (mask xs) ≡ seated_cores xs
unfolding ones
ones_mask [] = refl
ones_mask (x ∷ xs) =
    ones_step (bit x + 2 * mask xs)
    ∙ ap (λ (q : ℕ). q + ones ((bit x + 2 * mask xs) / 2)) (low x (mask xs))
    ∙ ap (λ (q : ℕ). bit x + ones q) (high x (mask xs))
    ∙ ap (λ (q : ℕ). bit x + q) (ones_mask xs)
    ∙ sym (sum_by-cons bit x xs)

-- of a slice, whose mask tells its seats
pub ones_seated : (z : Slice) → ones z.busy ≡ seated_cores z.seats
ones_seated z = ap ones z.masked ∙ ones_mask z.seats

-- bit c is set exactly where the core at place c is seated
pub mask_tells : (seats : List ℕ) (c : ℕ) → c < length seats → mask seats / 2 ^ c % 2 ≡ bit (get_or seats c 0)
mask_tells [] c h = absurd (not-suc-le-zero h)
mask_tells (x ∷ xs) zero h = omega (arith, bit_le x)
mask_tells (x ∷ xs) (suc c) h =
    let n : ℕ = bit x + 2 * mask xs in
    ap (λ (k : ℕ). n / 2 ^ k % 2) (sym (one-add c))
    ∙ ap (λ (q : ℕ). q % 2) (sym (shr-shr n 1 c))
    ∙ ap (λ (q : ℕ). q / 2 ^ c % 2) (high x (mask xs))
    ∙ mask_tells xs c (le_of_suc-le-suc h)

module _ (xs : List ℕ) (i : ℕ) (h : i < length xs) where
  more : mask (take (i + 1) xs) ≡ mask (take i xs) + bit (get_or xs i 0) * 2 ^ i
  more =
      ap mask (take_more xs i 0 h) ∙ mask_push (take i xs) (get_or xs i 0)
      ∙ ap (λ (n : ℕ). mask (take i xs) + bit (get_or xs i 0) * 2 ^ n) (length-take-le i xs (omega arith))

  small : mask (take i xs) < 2 ^ i
  small = rw (length-take-le i xs (omega arith)) at (mask_lt (take i xs))

  -- the loop's step
  pub mask_more : i < 16 → cond (ltb 0 (get_or xs i 0)) (bit_or (mask (take i xs)) ((1 * 2 ^ i) % 2 ^ 16)) (mask (take i xs)) ≡ mask (take (i + 1) xs)
  mask_more k = cond_both (ltb 0 (get_or xs i 0)) (bit_or (mask (take i xs)) ((1 * 2 ^ i) % 2 ^ 16)) (mask (take i xs)) (λ v. v ≡ mask (take (i + 1) xs)) seated idle
    where
      seated : ltb 0 (get_or xs i 0) ≡ true → bit_or (mask (take i xs)) ((1 * 2 ^ i) % 2 ^ 16) ≡ mask (take (i + 1) xs)
      seated p =
          let m : ℕ = mask (take i xs) in
          let b : bit (get_or xs i 0) ≡ 1 = ap (λ (t : Bool). cond t 1 0) p in
          ap (bit_or m) (one_shl i 16 k) ∙ or_comm m (2 ^ i) ∙ ap (λ (q : ℕ). bit_or q m) (sym (one-mul (2 ^ i)))
          ∙ or_shifted 1 i m small ∙ sym (more ∙ ap (λ (q : ℕ). m + q * 2 ^ i) b ∙ omega arith)

      idle : ltb 0 (get_or xs i 0) ≡ false → mask (take i xs) ≡ mask (take (i + 1) xs)
      idle p =
          let b : bit (get_or xs i 0) ≡ 0 = ap (λ (t : Bool). cond t 1 0) p in
          sym (more ∙ ap (λ (y : ℕ). mask (take i xs) + y * 2 ^ i) b ∙ omega arith)
