-- What `array::from_fn` makes by calls that keep P and give what h gives at each index.
use Rattle.std.proofs.Common.{◌≡◌, ℕ, zero, suc, ◌+◌, ◌<◌, List, map, get_or, sym, ap, ◌∙◌, arith}
use Rattle.std.specs.Array.{IsFromFnResult, IsFromFnResultFrom}
use Rattle.std.specs.Fn.{Called}
use Rattle.std.specs.List.{range_with_len}
use Rattle.std.proofs.lemmas.List.FromFn.{fill_by_all}
use denote.Param.Members.{Mut}

module _ {F B : Type 0} (g : Mut F (ℕ × Unit {0}) B) (P : F → Type 0) (h : ℕ → B) (gives : (f q : F) (i : ℕ) (y : B) → P f → Called g f (i, tt) y q → (y ≡ h i) × P q) where
  at_place : (n i : ℕ) (f : F) (ys : List B) → P f → IsFromFnResultFrom g f ys i n → (j : ℕ) → j < n → (d : B) → get_or ys (i + j) d ≡ h (i + j)
  at_place zero i f ys p made j l d = absurd (omega (arith, l))
  at_place (suc n) i f ys p (q, y, here, called, rest) zero l d =
      let same : i + 0 ≡ i = omega arith in
      ap (λ (k : ℕ). get_or ys k d) same ∙ here.1 d ∙ (gives f q i y p called).0 ∙ ap h (sym same)
  at_place (suc n) i f ys p (q, y, here, called, rest) (suc j) l d =
      let same : i + suc j ≡ i + 1 + j = omega arith in
      ap (λ (k : ℕ). get_or ys k d) same ∙ at_place n (i + 1) q ys (gives f q i y p called).1 rest j (omega (arith, l)) d ∙ ap h (sym same)

  pub built : (n : ℕ) (f : F) (ys : List B) → P f → IsFromFnResult g f ys n → (k : ℕ) → k < n → (d : B) → get_or ys k d ≡ h k
  built n f ys p made k l d =
      let same : k ≡ 0 + k = omega arith in
      ap (λ (j : ℕ). get_or ys j d) same ∙ at_place n 0 f ys p made.each k l d ∙ ap h (sym same)

  -- the same as one list
  pub built_whole : (n : ℕ) (f : F) (ys : List B) → P f → IsFromFnResult g f ys n → B → ys ≡ map h (range_with_len 0 n)
  built_whole n f ys p made d = fill_by_all h ys n d made.long (λ k l. built n f ys p made k l d)
