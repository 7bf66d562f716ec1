-- Loads whose slices are known, by computing.
use Rattle.std.proofs.Common.{◌≡◌, ℕ, zero, suc, cond, eqb, List, [], ◌∷◌, take, refl}
use Rattle.izl_rule.specs.Rule.{State, load, after, passage, seats}

-- the slices to the end, each a length and the seats of the first cores
abbrev slices : ℕ → State → List (ℕ × List ℕ)
slices zero s = []
slices (suc n) s = cond (eqb s.left 0) [] (((passage s).0, take s.width (seats s)) ∷ slices n (after s))

abbrev run : ℕ → ℕ → List ℕ → List (ℕ × List ℕ)
run width len shares = slices 9 (load width len shares)

three_tasks : run 2 6 (1 ∷ 2 ∷ 5 ∷ []) ≡ (1, 1 ∷ 2 ∷ []) ∷ (1, 2 ∷ 3 ∷ []) ∷ (4, 0 ∷ 3 ∷ []) ∷ []
three_tasks = refl

full : run 2 6 (6 ∷ 6 ∷ []) ≡ (6, 1 ∷ 2 ∷ []) ∷ []
full = refl

none : run 2 6 [] ≡ (6, 0 ∷ 0 ∷ []) ∷ []
none = refl

not_put_back : run 1 2 (1 ∷ 1 ∷ []) ≡ (1, 1 ∷ []) ∷ (1, 2 ∷ []) ∷ []
not_put_back = refl

last_core_lem : run 3 3 (1 ∷ 1 ∷ 3 ∷ 3 ∷ []) ≡ (1, 1 ∷ 3 ∷ 4 ∷ []) ∷ (1, 2 ∷ 3 ∷ 4 ∷ []) ∷ (1, 0 ∷ 3 ∷ 4 ∷ []) ∷ []
last_core_lem = refl

in_order : run 2 3 (1 ∷ 1 ∷ 2 ∷ 1 ∷ []) ≡ (1, 1 ∷ 2 ∷ []) ∷ (1, 4 ∷ 3 ∷ []) ∷ (1, 0 ∷ 3 ∷ []) ∷ []
in_order = refl

goes_idle : run 1 2 (1 ∷ []) ≡ (1, 1 ∷ []) ∷ (1, 0 ∷ []) ∷ []
goes_idle = refl

tie : run 2 2 (1 ∷ 1 ∷ 1 ∷ []) ≡ (1, 1 ∷ 2 ∷ []) ∷ (1, 0 ∷ 3 ∷ []) ∷ []
tie = refl

ended_with_two : run 3 3 (1 ∷ 1 ∷ 1 ∷ 1 ∷ 2 ∷ []) ≡ (1, 1 ∷ 2 ∷ 3 ∷ []) ∷ (1, 4 ∷ 0 ∷ 5 ∷ []) ∷ (1, 0 ∷ 0 ∷ 5 ∷ []) ∷ []
ended_with_two = refl
