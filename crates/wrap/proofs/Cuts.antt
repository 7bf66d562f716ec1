-- The least cut above a tick, and the seats up to it.
use Rattle.std.proofs.Common.{◌≡◌, ℕ, zero, suc, ◌+◌, ◌-◌, ◌*◌, ◌%◌, ◌<◌, ◌≤◌, Bool, true, false, cond, ◌&&◌, eqb, ltb, ◌⊎◌, List, length, sym, refl, ap, ◌∙◌, subst, inl, inr, ⊎_elim, add-one, arith}
use lib.Arith.{digits_mod}
use Rattle.std.proofs.lemmas.Bool.{cases_lt, cases_order, cond_both, both_ways, false≢true, and_parts, and_from, or_left, or_right, or_cases, eq-eqb, eqb-true, lt-ltb, ltb-true}
use Rattle.wrap.specs.Wrap.{share_at, line_end, task_at, ends_at, cut_by, cut, first, next_cut}
use Rattle.wrap.proofs.Steady.{steady}

-- b is the least number above x that passes
pub record Least (p : ℕ → Bool) (x b : ℕ) : Type 0 where
  pub above : x < b
  pub passes : p b ≡ true
  pub clear : (y : ℕ) → x < y → y < b → p y ≡ true → ⊥

pub least_one : (p : ℕ → Bool) (x a b : ℕ) → Least p x a → Least p x b → a ≡ b
least_one p x a b f g = ⊎_elim (λ e. e) (⊎_elim (λ l. absurd (g.clear a f.above l f.passes)) (λ l. absurd (f.clear b g.above l g.passes))) (cases_order a b)

first_least : (p : ℕ → Bool) (n x e : ℕ) → x < e → e ≤ x + n → p e ≡ true → Least p x (first p (x + 1) n)
first_least p zero x e l h t = absurd (omega arith)
first_least p (suc n) x e l h t = cond_both (p (x + 1)) (x + 1) (first p (x + 1 + 1) n) (Least p x)
    (λ yes. record { above = omega arith; passes = yes; clear = λ y a b _. omega arith })
    (λ not. let r = first_least p n (x + 1) e (past e t not l) (omega arith) t in
    record { above = omega (arith, r.above); passes = r.passes; clear = λ y a b q. r.clear y (past y q not a) b q })
  where
    past : (y : ℕ) → p y ≡ true → p (x + 1) ≡ false → x < y → x + 1 < y
    past y q not a = ⊎_elim (λ s. s) (λ s. let same : y ≡ x + 1 = omega arith in absurd (both_ways (p (x + 1)) not (subst (λ z. p z ≡ true) same q))) (cases_lt (x + 1) y)

module _ (shares : List ℕ) (len : ℕ) where
  -- what the first n shares cut, one share more cuts too
  cut_more : (n y : ℕ) → cut_by shares len n y ≡ true → cut_by shares len (suc n) y ≡ true
  cut_more n y t = ⊎_elim
      (λ e. or_left (eqb len y) _ e)
      (λ b. let a = and_parts (ltb 0 y) (ends_at shares len n y) b in or_right (eqb len y) _ (and_from (ltb 0 y) (ends_at shares len (suc n) y) a.0 (or_right (ltb 0 (share_at shares n) && eqb (line_end shares (suc n) % len) y) (ends_at shares len n y) a.1)))
      (or_cases (eqb len y) (ltb 0 y && ends_at shares len n y) t)

  -- and the only other cut is that share's own end
  cut_less : (n y : ℕ) → cut_by shares len (suc n) y ≡ true → (cut_by shares len n y ≡ true) ⊎ ((0 < share_at shares n) × (line_end shares (suc n) % len ≡ y))
  cut_less n y t = ⊎_elim
      (λ e. inl (or_left (eqb len y) _ e))
      (λ b. let a = and_parts (ltb 0 y) (ends_at shares len (suc n) y) b in
      ⊎_elim
      (λ here. let h = and_parts (ltb 0 (share_at shares n)) (eqb (line_end shares (suc n) % len) y) here in inr (ltb-true 0 (share_at shares n) h.0, eqb-true (line_end shares (suc n) % len) y h.1))
      (λ before. inl (or_right (eqb len y) _ (and_from (ltb 0 y) (ends_at shares len n y) a.0 before)))
      (or_cases (ltb 0 (share_at shares n) && eqb (line_end shares (suc n) % len) y) (ends_at shares len n y) a.1))
      (or_cases (eqb len y) (ltb 0 y && ends_at shares len (suc n) y) t)

  cut_here : (n y : ℕ) → 0 < y → 0 < share_at shares n → line_end shares (suc n) % len ≡ y → cut_by shares len (suc n) y ≡ true
  cut_here n y some pos e = or_right (eqb len y) _ (and_from (ltb 0 y) (ends_at shares len (suc n) y) (lt-ltb 0 y some) (or_left _ (ends_at shares len n y) (and_from (ltb 0 (share_at shares n)) (eqb (line_end shares (suc n) % len) y) (lt-ltb 0 (share_at shares n) pos) (eq-eqb (line_end shares (suc n) % len) y e))))

  cut_there : (n i y : ℕ) → i < n → 0 < y → 0 < share_at shares i → line_end shares (suc i) % len ≡ y → cut_by shares len n y ≡ true
  cut_there zero i y l some pos e = absurd (omega arith)
  cut_there (suc n) i y l some pos e = ⊎_elim
      (λ s. cut_more n y (cut_there n i y s some pos e))
      (λ s. let same : i ≡ n = omega arith in cut_here n y some (subst (λ j. 0 < share_at shares j) same pos) (subst (λ j. line_end shares (suc j) % len ≡ y) same e))
      (cases_lt i n)

  pub cut_end : (n : ℕ) → cut_by shares len n len ≡ true
  cut_end n = or_left (eqb len len) _ (eq-eqb len len refl)

  -- the search for the least cut, share by share
  pub least_none : (x : ℕ) → x < len → Least (cut_by shares len 0) x len
  least_none x l = record { above = l; passes = cut_end 0; clear = λ y a b t. ⊎_elim (λ e. omega (arith, eqb-true len y e)) (λ f. false≢true (and_parts (ltb 0 y) false f).1) (or_cases (eqb len y) (ltb 0 y && false) t) }

  least_yes : (n x b : ℕ) → 0 < share_at shares n → x < line_end shares (suc n) % len → line_end shares (suc n) % len < b → Least (cut_by shares len n) x b → Least (cut_by shares len (suc n)) x (line_end shares (suc n) % len)
  least_yes n x b pos a l f = record {
    above = a;
    passes = cut_here n (line_end shares (suc n) % len) (omega arith) pos refl;
    clear = λ y u v t. ⊎_elim (λ q. f.clear y u (omega arith) q) (λ q. omega (arith, q.1)) (cut_less n y t);
  }

  least_no : (n x b : ℕ) → (0 < share_at shares n → x < line_end shares (suc n) % len → line_end shares (suc n) % len < b → ⊥) → Least (cut_by shares len n) x b → Least (cut_by shares len (suc n)) x b
  least_no n x b none f = record {
    above = f.above;
    passes = cut_more n b f.passes;
    clear = λ y u v t. ⊎_elim (λ q. f.clear y u v q) (λ q. none q.0 (omega (arith, q.1)) (omega (arith, q.1))) (cut_less n y t);
  }

  pub least_more : (n x b e r : ℕ) → e ≡ line_end shares (n + 1) % len → r ≡ cond (ltb 0 (share_at shares n) && (ltb x e && ltb e b)) e b → Least (cut_by shares len n) x b → Least (cut_by shares len (n + 1)) x r
  least_more n x b e r is told f = subst (λ (m : ℕ). Least (cut_by shares len m) x r) (sym (add-one n)) (subst (Least (cut_by shares len (suc n)) x) (sym told)
      (cond_both (ltb 0 (share_at shares n) && (ltb x e && ltb e b)) e b (Least (cut_by shares len (suc n)) x)
      (λ t. let p = and_parts (ltb 0 (share_at shares n)) (ltb x e && ltb e b) t in
      let q = and_parts (ltb x e) (ltb e b) p.1 in
      subst (Least (cut_by shares len (suc n)) x) (sym end) (least_yes n x b (ltb-true 0 (share_at shares n) p.0) (omega (arith, end, ltb-true x e q.0)) (omega (arith, end, ltb-true e b q.1)) f))
      (λ t. least_no n x b (λ pos a l. both_ways (ltb 0 (share_at shares n) && (ltb x e && ltb e b)) t (and_from (ltb 0 (share_at shares n)) (ltb x e && ltb e b) (lt-ltb 0 (share_at shares n) pos) (and_from (ltb x e) (ltb e b) (lt-ltb x e (omega (arith, end))) (lt-ltb e b (omega (arith, end)))))) f)))
    where
      end : e ≡ line_end shares (suc n) % len
      end = is ∙ ap (λ (m : ℕ). line_end shares m % len) (add-one n)

  pub next_least : (x : ℕ) → x < len → Least (cut shares len) x (next_cut shares len x)
  next_least x l = first_least (cut shares len) (len - x) x len l (omega arith) (cut_end (length shares))

  pub next_within : (x : ℕ) → x < len → next_cut shares len x ≤ len
  next_within x l = ⊎_elim (λ past. absurd ((next_least x l).clear len l past (cut_end (length shares)))) (λ h. h) (cases_lt len (next_cut shares len x))

  -- with no cut between two ticks, a core keeps its task
  pub core_steady : (c x y : ℕ) → x ≤ y → y < len → ((z : ℕ) → x < z → z ≤ y → cut shares len z ≡ true → ⊥) → task_at shares (c * len + x) ≡ task_at shares (c * len + y)
  core_steady c x y l u none = steady (share_at shares) (length shares) (c * len + x) (c * len + y) (omega arith)
      (λ i h pos a b.
      let e : ℕ = line_end shares (suc i) in
      let r : ℕ = e - c * len in
      let short : r < len = omega arith in
      let is : e ≡ c * len + r = omega arith in
      none r (omega arith) (omega arith) (cut_there (length shares) i r h (omega arith) pos (ap (λ (p : ℕ). p % len) is ∙ digits_mod c short)))
