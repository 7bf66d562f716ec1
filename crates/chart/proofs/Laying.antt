-- The wrap-round line: the shares of an interval laid end to end over its cores.
use Rattle.std.proofs.Common.{◌≡◌, ℕ, zero, suc, ◌+◌, ◌*◌, ◌<◌, ◌≤◌, ◌&&◌, ltb, leb, ◌⊎◌, sym, refl, ◌∙◌, subst, inl, inr, ⊎_elim, arith}
use native.Mathlib.Nat as law
use Rattle.std.proofs.lemmas.Bool.{cases_lt, cases_eq, cond-true, cond-false, cond_both, and_parts, leb-true, ltb-true, and_from, le-leb, lt-ltb, lt-leb, and_left}
use Rattle.chart.specs.Sums.{upto}
use Rattle.chart.specs.Laid.{whose}
use Rattle.chart.proofs.Ranges.{upto_same, upto_none, upto_rises, upto_between, between, inside_in, inside_low, inside_high}
use Rattle.chart.proofs.Tallies.{hit, hit_yes, hit_no}

pub whose_le : (s : ℕ → ℕ) (n p : ℕ) → whose s n p ≤ n
whose_le s zero p = omega arith
whose_le s (suc n) p = cond_both (leb (upto s n) p && ltb p (upto s (suc n))) (suc n) (whose s n p) (λ w. w ≤ suc n) (λ _. omega arith) (λ _. omega (arith, whose_le s n p))

pub record Stretch (s : ℕ → ℕ) (n p i : ℕ) : Type 0 where
  pub there : i < n
  pub low : upto s i ≤ p
  pub high : p < upto s (suc i)

pub whose_holds : (s : ℕ → ℕ) (n p i : ℕ) → whose s n p ≡ suc i → Stretch s n p i
whose_holds s zero p i = λ e. absurd (omega arith)
whose_holds s (suc n) p i = cond_both (leb (upto s n) p && ltb p (upto s (suc n))) (suc n) (whose s n p) (λ w. w ≡ suc i → Stretch s (suc n) p i)
    (λ t e. let a = and_parts (leb (upto s n) p) (ltb p (upto s (suc n))) t in let q : n ≡ i = omega arith in
    record { there = omega arith; low = subst (λ j. upto s j ≤ p) q (leb-true (upto s n) p a.0); high = subst (λ j. p < upto s (suc j)) q (ltb-true p (upto s (suc n)) a.1) })
    (λ t e. let w = whose_holds s n p i e in record { there = omega (arith, w.there); low = w.low; high = w.high })

pub whose_is : (s : ℕ → ℕ) (n p i : ℕ) → i < n → upto s i ≤ p → p < upto s (suc i) → whose s n p ≡ suc i
whose_is s zero p i l low high = omega arith
whose_is s (suc n) p i l low high = ⊎_elim
    (λ e. let lo : upto s n ≤ p = subst (λ j. upto s j ≤ p) e low in let hi : p < upto s (suc n) = subst (λ j. p < upto s (suc j)) e high in
    cond-true (leb (upto s n) p && ltb p (upto s (suc n))) (suc n) (whose s n p) (and_from (leb (upto s n) p) (ltb p (upto s (suc n))) (le-leb (upto s n) p lo) (lt-ltb p (upto s (suc n)) hi)) ∙ omega arith)
    (λ ne. let m : upto s (suc i) ≤ upto s n = upto_rises s (suc i) n (omega arith) in
    cond-false (leb (upto s n) p && ltb p (upto s (suc n))) (suc n) (whose s n p) (and_left (leb (upto s n) p) (ltb p (upto s (suc n))) (lt-leb (upto s n) p (omega arith))) ∙ whose_is s n p i (omega arith) low high)
    (cases_eq i n)

-- the places of task i + 1 are its stretch
pub hit_stretch : (s : ℕ → ℕ) (n p i : ℕ) → i < n → hit (suc i) (whose s n p) ≡ between (upto s i) (upto s (suc i)) p
hit_stretch s n p i l = ⊎_elim
    (λ low. hit_no (suc i) (whose s n p) (λ e. let w = whose_holds s n p i (sym e) in omega (arith, w.low, low)) ∙ sym (inside_low (upto s i) (upto s (suc i)) p 1 low))
    (λ above. ⊎_elim
    (λ here. hit_yes (suc i) (whose s n p) (sym (whose_is s n p i l above here)) ∙ sym (inside_in (upto s i) (upto s (suc i)) p 1 above here))
    (λ high. hit_no (suc i) (whose s n p) (λ e. let w = whose_holds s n p i (sym e) in omega (arith, w.high, high)) ∙ sym (inside_high (upto s i) (upto s (suc i)) p 1 high))
    (cases_lt p (upto s (suc i))))
    (cases_lt p (upto s i))

-- as many places as the share
pub stretch_size : (s : ℕ → ℕ) (n i m : ℕ) → i < n → upto s n ≤ m → upto (λ p. hit (suc i) (whose s n p)) m ≡ s i
stretch_size s n i m l room =
    let e = upto_same (λ p. hit (suc i) (whose s n p)) (between (upto s i) (upto s (suc i))) m (λ p _. hit_stretch s n p i l) in
    omega (arith, e, upto_between (upto s i) (upto s (suc i)) m (omega arith), upto_rises s (suc i) n l)

-- places that are len apart meet a stretch of at most len once
pub between_once : (a b len x m : ℕ) → b ≤ a + len → (upto (λ c. between a b (c * len + x)) m ≡ 0) ⊎ ((upto (λ c. between a b (c * len + x)) m ≡ 1) × (b ≤ m * len + x))
between_once a b len x zero l = inl refl
between_once a b len x (suc m) l =
    let q = law.suc-mul m len in
    ⊎_elim
    (λ none. ⊎_elim
    (λ low. inl (omega (arith, none, inside_low a b (m * len + x) 1 low)))
    (λ above. ⊎_elim
    (λ here. inr (omega (arith, none, inside_in a b (m * len + x) 1 above here), omega arith))
    (λ high. inl (omega (arith, none, inside_high a b (m * len + x) 1 high)))
    (cases_lt (m * len + x) b))
    (cases_lt (m * len + x) a))
    (λ one. inr (omega (arith, one.0, inside_high a b (m * len + x) 1 one.1), omega (arith, one.1)))
    (between_once a b len x m l)

pub whose_once : (s : ℕ → ℕ) (n i len x m : ℕ) → (i < n → s i ≤ len) → upto (λ c. hit (suc i) (whose s n (c * len + x))) m ≤ 1
whose_once s n i len x m narrow = ⊎_elim
    (λ l. let e = upto_same (λ c. hit (suc i) (whose s n (c * len + x))) (λ c. between (upto s i) (upto s (suc i)) (c * len + x)) m (λ c _. hit_stretch s n (c * len + x) i l) in
    let k = narrow l in
    ⊎_elim (λ none. omega (arith, e, none)) (λ one. omega (arith, e, one.0)) (between_once (upto s i) (upto s (suc i)) len x m (omega arith)))
    (λ past. let e = upto_same (λ c. hit (suc i) (whose s n (c * len + x))) (λ c. 0) m (λ c _. hit_no (suc i) (whose s n (c * len + x)) (λ e. let w = whose_holds s n (c * len + x) i (sym e) in omega (arith, w.there, past))) in omega (arith, e, upto_none m))
    (cases_lt i n)
