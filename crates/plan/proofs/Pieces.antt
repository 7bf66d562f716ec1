-- Pieces of equal width, written one after the other.
use Rattle.std.proofs.Common.{◌≡◌, ℕ, ◌+◌, ◌*◌, ◌<◌, ◌≤◌, List, [], ◌∷◌, ◌++◌, map, length, get_or, take, sym, ap, ◌∙◌, mul-zero, mul-suc, arith}
use Rattle.std.specs.List.{flat_map}
use Rattle.std.proofs.lemmas.List.{flat_map_more, length-append, length-take-le, map-append, take_more}
use Rattle.plan.specs.Plans.{written}
use Rattle.plan.proofs.Written.{written_both}

pub length_joined : {X : Type 0} (w : ℕ) (enc : X → List ℕ) → ((x : X) → length (enc x) ≡ w) → (xs : List X) → length (flat_map enc xs) ≡ w * length xs
length_joined w enc wide [] = sym (mul-zero w)
length_joined w enc wide (x ∷ xs) = length-append (enc x) (flat_map enc xs) ∙ omega (arith, wide x, length_joined w enc wide xs, mul-suc w (length xs))

-- one piece more
pub one_more : {X : Type 0} (w : ℕ) (enc : X → List ℕ) (dec : List ℕ → X) (out mid new : List ℕ) (at i : ℕ) (xs : List X) (x d : X)
    → ((y : X) → length (enc y) ≡ w) → i < length xs → x ≡ get_or xs i d → at ≤ length out
    → mid ≡ written out at (flat_map enc (take i xs)) → map (λ y. dec (enc y)) (take i xs) ≡ take i xs
    → new ≡ written mid (at + w * i) (enc x) → dec (enc x) ≡ x
    → (new ≡ written out at (flat_map enc (take (i + 1) xs))) × (map (λ y. dec (enc y)) (take (i + 1) xs) ≡ take (i + 1) xs)
one_more w enc dec out mid new at i xs x d wide within here room so same is back =
    let front = take i xs in
    let all : take (i + 1) xs ≡ front ++ x ∷ [] = take_more xs i d within ∙ ap (λ y. front ++ y ∷ []) (sym here) in
    let few : w * length front ≡ w * i = ap (λ (k : ℕ). w * k) (length-take-le i xs (omega arith)) in (
      is ∙ ap (λ l. written l (at + w * i) (enc x)) so ∙ written_both out (flat_map enc front) (enc x) at (at + w * i) room (omega (arith, few, length_joined w enc wide front))
          ∙ ap (written out at) (flat_map_more enc [] front x ∙ ap (flat_map enc) (sym all)),
      ap (map (λ y. dec (enc y))) all ∙ map-append (λ y. dec (enc y)) front (x ∷ []) ∙ ap (λ l. l ++ map (λ y. dec (enc y)) (x ∷ [])) same ∙ ap (λ y. front ++ y ∷ []) back ∙ sym all,
    )
