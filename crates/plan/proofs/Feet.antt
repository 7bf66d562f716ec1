-- The last twelve bytes, one by one.
use Rattle.std.proofs.Common.{◌≡◌, ℕ, ◌+◌, ◌-◌, ◌≤◌, List, [], ◌∷◌, ◌++◌, length, get_or, drop, ap, ◌∙◌, arith, length-drop}
use Rattle.std.proofs.lemmas.List.{get_or-drop}
use Rattle.std.proofs.lemmas.Slice.Eq.{text_from_reads}

pub foot : (bs : List ℕ) → 12 ≤ length bs → drop (length bs - 12) bs ≡ get_or bs (length bs - 12) 0 ∷ get_or bs (length bs - 11) 0 ∷ get_or bs (length bs - 10) 0 ∷ get_or bs (length bs - 9) 0 ∷ get_or bs (length bs - 8) 0 ∷ get_or bs (length bs - 7) 0 ∷ get_or bs (length bs - 6) 0 ∷ get_or bs (length bs - 5) 0 ∷ get_or bs (length bs - 4) 0 ∷ get_or bs (length bs - 3) 0 ∷ get_or bs (length bs - 2) 0 ∷ get_or bs (length bs - 1) 0 ∷ []
foot bs long =
    let ys = drop (length bs - 12) bs in
    let at : (i j : ℕ) → length bs - 12 + i ≡ j → get_or ys i 0 ≡ get_or bs j 0 = λ i j e. get_or-drop (length bs - 12) bs i 0 ∙ ap (λ (k : ℕ). get_or bs k 0) e in
    text_from_reads ys _ (length-drop (length bs - 12) bs ∙ omega arith)
    (at 0 (length bs - 12) (omega arith), (at 1 (length bs - 11) (omega arith), (at 2 (length bs - 10) (omega arith), (at 3 (length bs - 9) (omega arith), (at 4 (length bs - 8) (omega arith), (at 5 (length bs - 7) (omega arith), (at 6 (length bs - 6) (omega arith), (at 7 (length bs - 5) (omega arith), (at 8 (length bs - 4) (omega arith), (at 9 (length bs - 3) (omega arith), (at 10 (length bs - 2) (omega arith), (at 11 (length bs - 1) (omega arith), tt))))))))))))

pub five : {a b c d e p q r s t : List ℕ} → a ≡ p → b ≡ q → c ≡ r → d ≡ s → e ≡ t → a ++ (b ++ (c ++ (d ++ e))) ≡ p ++ (q ++ (r ++ (s ++ t)))
five f g h i j = cc
