-- The cores take in turn: the first of them get a task each, in the order of the waiting queue.
use Rattle.std.proofs.Common.{◌≡◌, ℕ, zero, suc, ◌+◌, ◌-◌, ◌<◌, ◌≤◌, min, cond, eqb, ◌⊎◌, List, [], ◌∷◌, ◌++◌, map, length, get_or, drop, count_by, sym, refl, ap, ◌∙◌, inl, inr, append_assoc, append-nil, arith}
use mathlib.Core.List.{map-append}
use Rattle.std.specs.List.{AllByRecursion}
use Rattle.std.proofs.lemmas.List.{length-drop}
use Rattle.std.proofs.lemmas.List.Sums.{sum_by-cons}
use Rattle.std.proofs.lemmas.Bool.{cond-false, le-ltb, eq-eqb, ne_eqb, cases_eq, cases_lt}
use Rattle.izl_rule.specs.declared.Running.{Running}
use Rattle.izl_rule.specs.declared.Waiting.{Waiting}
use Rattle.izl_rule.specs.Rule.{State, nothing, on, waits, takes, filled}
use Rattle.izl_rule.specs.Invariant.{Merged, merged, job}
use Rattle.izl_rule.proofs.Lists.{bit}
use Rattle.izl_rule.proofs.Steps.{Job}
use Rattle.izl_rule.proofs.Merging.{core, same, taking}

-- n cores from c on
abbrev pub cores : ℕ → ℕ → List ℕ
cores c zero = []
cores c (suc n) = c ∷ cores (c + 1) n

pub length_cores : (c n : ℕ) → length (cores c n) ≡ n
length_cores c zero = refl
length_cores c (suc n) = ap suc (length_cores (c + 1) n)

pub all_cores : (w c n : ℕ) → c + n ≤ w → AllByRecursion (λ x. x < w) (cores c n)
all_cores w c zero h = tt
all_cores w c (suc n) h = (omega arith, all_cores w (c + 1) n (omega arith))

cores_none : (x c n : ℕ) → x < c → count_by (eqb x) (cores c n) ≡ 0
cores_none x c zero h = refl
cores_none x c (suc n) h =
    let z : bit (eqb x c) ≡ 0 = rw (ne_eqb x c (λ e. omega arith)) in
    omega (arith, sum_by-cons (λ (y : ℕ). cond (eqb x y) 1 0) c (cores (c + 1) n), cores_none x (c + 1) n (omega arith))

pub cores_once : (x c n : ℕ) → count_by (eqb x) (cores c n) ≤ 1
cores_once x c zero = omega arith
cores_once x c (suc n) = go (cases_eq x c) (cores_once x (c + 1) n)
  where
    go : (x ≡ c) ⊎ (x ≡ c → ⊥) → count_by (eqb x) (cores (c + 1) n) ≤ 1 → count_by (eqb x) (cores c (suc n)) ≤ 1
    go (inl e) h =
        let z : bit (eqb x c) ≡ 1 = rw (eq-eqb x c e) in
        omega (arith, sum_by-cons (λ (y : ℕ). cond (eqb x y) 1 0) c (cores (c + 1) n), cores_none x (c + 1) n (omega arith))
    go (inr d) h =
        let z : bit (eqb x c) ≡ 0 = rw (ne_eqb x c d) in
        omega (arith, sum_by-cons (λ (y : ℕ). cond (eqb x y) 1 0) c (cores (c + 1) n))

-- the jobs stay, and the line has one core more
abbrev longer : State → List ℕ → Merged
longer s cs = record { width = s.width; left = s.left; jobs = (merged s).jobs; line = (merged s).line ++ cs; taken = s.taken }

first_moves : (c : ℕ) (rs : List Running) (ws : List Waiting) → 0 < length ws → map job (rs ++ (on c (get_or ws 0 nothing) ∷ [])) ++ drop 1 ws ≡ map job rs ++ ws
first_moves c rs [] wait = absurd (omega arith)
first_moves c rs (w ∷ ws) wait = ap (λ (js : List Job). js ++ ws) (map-append job rs (on c w ∷ [])) ∙ append_assoc (map job rs) (w ∷ []) ws

merged_takes : (c : ℕ) (s : State) → 0 < length s.waiting → merged (takes c s) ≡ longer s (c ∷ [])
merged_takes c s wait = ap merged (taking c s wait) ∙ same s.width s.left (first_moves c s.running s.waiting wait) (map-append core s.running (on c _ ∷ [])) refl

pub merged_filled : (c n : ℕ) (s : State) → merged (filled c n s) ≡ longer s (cores c (min n (length s.waiting)))
merged_filled c zero s =
    let z : 0 ≡ min 0 (length s.waiting) = omega arith in
    same s.width s.left refl (sym (append-nil (merged s).line) ∙ ap (λ (k : ℕ). (merged s).line ++ cores c k) z) refl
merged_filled c (suc n) s = go (λ x. merged_filled (c + 1) n x) (cases_lt 0 (length s.waiting))
  where
    go : ((x : State) → merged (filled (c + 1) n x) ≡ longer x (cores (c + 1) (min n (length x.waiting)))) → (0 < length s.waiting) ⊎ (length s.waiting ≤ 0) → merged (filled (c + 1) n (takes c s)) ≡ longer s (cores c (min (suc n) (length s.waiting)))
    go rest (inl wait) =
        let e = merged_takes c s wait in
        let w : length (takes c s).waiting ≡ length s.waiting - 1 = ap (λ (x : State). length x.waiting) (taking c s wait) ∙ length-drop 1 s.waiting in
        let k : suc (min n (length (takes c s).waiting)) ≡ min (suc n) (length s.waiting) = omega (arith, w) in
        rest (takes c s)
        ∙ (λ i. record { width = (e i).width; left = (e i).left; jobs = (e i).jobs; line = (e i).line ++ cores (c + 1) (min n (length (takes c s).waiting)); taken = (e i).taken })
        ∙ same s.width s.left refl (append_assoc (merged s).line (c ∷ []) (cores (c + 1) (min n (length (takes c s).waiting))) ∙ ap (λ (m : ℕ). (merged s).line ++ cores c m) k) refl
    go rest (inr none) =
        let e : takes c s ≡ s = cond-false (waits s) _ _ (le-ltb 0 (length s.waiting) none) in
        let k : min n (length s.waiting) ≡ 0 = omega arith in
        let m : 0 ≡ min (suc n) (length s.waiting) = omega arith in
        ap (λ (x : State). merged (filled (c + 1) n x)) e ∙ rest s
        ∙ same s.width s.left refl (ap (λ (x : ℕ). (merged s).line ++ cores (c + 1) x) k ∙ ap (λ (x : ℕ). (merged s).line ++ cores c x) m) refl
