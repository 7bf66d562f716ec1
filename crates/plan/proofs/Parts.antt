-- Parts of equal width, read from bytes and written as bytes.
use Rattle.std.proofs.Common.{◌≡◌, ℕ, zero, suc, ◌+◌, ◌*◌, ◌<◌, List, [], ◌∷◌, ◌++◌, map, length, take, drop, set, sym, refl, ap, ◌∙◌, mul-zero, mul-suc, add-one, arith, take-add}
use Rattle.std.specs.List.{flat_map}
use Rattle.std.proofs.lemmas.List.{append_assoc, drop_at, drop-drop, flat_map_more, take_at, take_more_set}
use Rattle.plan.specs.File.{parts}

-- one more part
parts_suc : {X : Type 0} (w : ℕ) (f : List ℕ → X) (n : ℕ) (bs : List ℕ) → parts w f (suc n) bs ≡ parts w f n bs ++ f (take w (drop (w * n) bs)) ∷ []
parts_suc w f zero bs = rw mul-zero refl
parts_suc w f (suc n) bs =
    let at : drop (w * n) (drop w bs) ≡ drop (w * suc n) bs = drop-drop (w * n) w bs ∙ ap (λ (k : ℕ). drop k bs) (omega (arith, mul-suc w n)) in
    ap (λ l. f (take w bs) ∷ l) (parts_suc w f n (drop w bs) ∙ ap (λ (l : List ℕ). parts w f n (drop w bs) ++ f (take w l) ∷ []) at)

pub parts_more : {X : Type 0} (w : ℕ) (f : List ℕ → X) (n : ℕ) (bs : List ℕ) → parts w f (n + 1) bs ≡ parts w f n bs ++ f (take w (drop (w * n) bs)) ∷ []
parts_more w f n bs = rw add-one (parts_suc w f n bs)

-- the bytes of one more part
pub back_more : {X : Type 0} (w : ℕ) (f : List ℕ → X) (g : X → List ℕ) (n : ℕ) (bs : List ℕ)
    → flat_map g (parts w f n bs) ≡ take (w * n) bs → g (f (take w (drop (w * n) bs))) ≡ take w (drop (w * n) bs)
    → flat_map g (parts w f (n + 1) bs) ≡ take (w * (n + 1)) bs
back_more w f g n bs so one =
    ap (flat_map g) (parts_more w f n bs) ∙ sym (flat_map_more g [] (parts w f n bs) (f (take w (drop (w * n) bs))))
    ∙ ap (λ l. l ++ g (f (take w (drop (w * n) bs)))) so ∙ ap (λ l. take (w * n) bs ++ l) one
    ∙ sym (take-add (w * n) w bs) ∙ ap (λ (k : ℕ). take k bs) (omega (arith, mul-suc w n, add-one n))

-- a turn of a loop that reads parts into a table
pub turn : {X : Type 0} (w : ℕ) (f : List ℕ → X) (g : X → List ℕ) (n : ℕ) (bs part : List ℕ) (xs : List X) (x : X)
    → part ≡ drop (w * n) bs → n < length xs → take n xs ≡ parts w f n bs → flat_map g (parts w f n bs) ≡ take (w * n) bs
    → x ≡ f (take w part) → g x ≡ take w part
    → (take (n + 1) (set xs n x) ≡ parts w f (n + 1) bs) × (flat_map g (parts w f (n + 1) bs) ≡ take (w * (n + 1)) bs)
turn w f g n bs part xs x at within so back is same =
    let here : x ≡ f (take w (drop (w * n) bs)) = is ∙ ap (λ (l : List ℕ). f (take w l)) at in (
      take_more_set xs n x within ∙ ap (λ l. l ++ x ∷ []) so ∙ ap (λ y. parts w f n bs ++ y ∷ []) here ∙ sym (parts_more w f n bs),
      back_more w f g n bs back (sym (ap g here) ∙ same ∙ ap (take w) at),
    )

pub length_parts : {X : Type 0} (w : ℕ) (f : List ℕ → X) (n : ℕ) (bs : List ℕ) → length (parts w f n bs) ≡ n
length_parts w f zero bs = refl
length_parts w f (suc n) bs = ap suc (length_parts w f n (drop w bs))

-- what was written one after the other is read again
pub parts_joined : {X : Type 0} (w : ℕ) (enc : X → List ℕ) (dec : List ℕ → X) → ((x : X) → length (enc x) ≡ w) → (xs : List X) (rest : List ℕ)
    → parts w dec (length xs) (flat_map enc xs ++ rest) ≡ map (λ x. dec (enc x)) xs
parts_joined w enc dec wide [] rest = refl
parts_joined w enc dec wide (x ∷ xs) rest =
    let whole = append_assoc (enc x) (flat_map enc xs) rest in
    let first : take w ((enc x ++ flat_map enc xs) ++ rest) ≡ enc x = ap (take w) whole ∙ take_at (enc x) (flat_map enc xs ++ rest) w (wide x) in
    let others : drop w ((enc x ++ flat_map enc xs) ++ rest) ≡ flat_map enc xs ++ rest = ap (drop w) whole ∙ drop_at (enc x) (flat_map enc xs ++ rest) w (wide x) in
    ap (λ l. dec l ∷ parts w dec (length xs) (drop w ((enc x ++ flat_map enc xs) ++ rest))) first
    ∙ ap (λ l. dec (enc x) ∷ l) (ap (parts w dec (length xs)) others ∙ parts_joined w enc dec wide xs rest)
