-- The cuts that are left are the slices to come.
use Rattle.std.proofs.Common.{◌≡◌, ℕ, zero, suc, ◌+◌, ◌%◌, ◌<◌, ◌≤◌, Bool, true, false, cond, ◌&&◌, ◌||◌, eqb, ltb, List, length, sym, ap, ◌∙◌, ⊎_elim, arith}
use Rattle.std.proofs.lemmas.Bool.{cases_lt, cond-true}
use Rattle.chart.specs.Sums.{upto}
use Rattle.chart.proofs.Ranges.{upto_same, upto_none, upto_plus, upto_add}
use Rattle.chart.proofs.Tallies.{hit, hit_no, hit_yes}
use Rattle.local.specs.Masks.{bit}
use Rattle.wrap.specs.Wrap.{share_at, line_end, ends_at, cut_by, cut}
use Rattle.wrap.proofs.Cuts.{cut_end}

abbrev one : Bool → ℕ
one b = cond b 1 0

or_le : (a b : Bool) → one (a || b) ≤ one a + one b
or_le true b = omega arith
or_le false b = omega arith

and_le : (a b : Bool) → one (a && b) ≤ one b
and_le true b = omega arith
and_le false b = omega arith

upto_le : (f g : ℕ → ℕ) (n : ℕ) → ((k : ℕ) → f k ≤ g k) → upto f n ≤ upto g n
upto_le f g zero l = omega arith
upto_le f g (suc n) l = omega (arith, upto_le f g n l, l n)

-- one number is met at most once
upto_hit : (e n : ℕ) → upto (λ k. hit e (1 + k)) n ≤ 1
upto_hit e n = ⊎_elim (λ l. omega (arith, at n l)) (λ l. omega (arith, past n l)) (cases_lt n e)
  where
    at : (n : ℕ) → n < e → upto (λ k. hit e (1 + k)) n ≤ 0
    at zero l = omega arith
    at (suc n) l = omega (arith, at n (omega arith), hit_no e (1 + n) (λ q. omega arith))

    past : (n : ℕ) → e ≤ n → upto (λ k. hit e (1 + k)) n ≤ 1
    past zero l = omega arith
    past (suc n) l = ⊎_elim (λ last. omega (arith, at n last, hit_yes e (1 + n) (omega arith))) (λ before. omega (arith, past n before, hit_no e (1 + n) (λ q. omega arith))) (cases_lt n e)

module _ (shares : List ℕ) (len : ℕ) where
  ends_few : (n m : ℕ) → upto (λ k. one (ends_at shares len n (1 + k))) m ≤ upto (λ i. bit (share_at shares i)) n
  ends_few zero m = omega (arith, upto_none m)
  ends_few (suc n) m =
      let e : ℕ = line_end shares (suc n) % len in
      let new : ℕ → ℕ = λ k. one (ltb 0 (share_at shares n) && eqb e (1 + k)) in
      let old : ℕ → ℕ = λ k. one (ends_at shares len n (1 + k)) in
      let own : upto new m ≤ bit (share_at shares n) = own_few (ltb 0 (share_at shares n)) e m in
      omega (arith, own, ends_few n m, upto_plus new old m, upto_le (λ k. one (ends_at shares len (suc n) (1 + k))) (λ k. new k + old k) m (λ k. or_le (ltb 0 (share_at shares n) && eqb e (1 + k)) (ends_at shares len n (1 + k))))
    where
      own_few : (b : Bool) (e m : ℕ) → upto (λ k. one (b && eqb e (1 + k))) m ≤ one b
      own_few true e m = upto_hit e m
      own_few false e m = omega (arith, upto_none m)

  -- at most one cut for each positive share, and the interval's end
  pub cuts_few : (n m : ℕ) → upto (λ k. one (cut_by shares len n (1 + k))) m ≤ upto (λ i. bit (share_at shares i)) n + 1
  cuts_few n m =
      let end : ℕ → ℕ = λ k. hit len (1 + k) in
      let ends : ℕ → ℕ = λ k. one (ends_at shares len n (1 + k)) in
      omega (arith, ends_few n m, upto_hit len m, upto_plus end ends m, upto_le (λ k. one (cut_by shares len n (1 + k))) (λ k. end k + ends k) m (λ k. omega (arith, or_le (eqb len (1 + k)) (ltb 0 (1 + k) && ends_at shares len n (1 + k)), and_le (ltb 0 (1 + k)) (ends_at shares len n (1 + k)))))

  pub some_cut : (x rest : ℕ) → x + rest ≡ len → 1 ≤ rest → 1 ≤ upto (λ k. one (cut shares len (x + 1 + k))) rest
  some_cut x zero e l = absurd (omega arith)
  some_cut x (suc rest) e l = let last : x + 1 + rest ≡ len = omega arith in omega (arith, cond-true {A = ℕ} (cut shares len (x + 1 + rest)) 1 0 (ap (cut shares len) last ∙ cut_end shares len (length shares)))

  -- a slice passes at least the cut that it ends at
  pub fewer_cuts : (x t rest : ℕ) → 1 ≤ t → cut shares len (x + t) ≡ true → upto (λ k. one (cut shares len (x + t + 1 + k))) rest < upto (λ k. one (cut shares len (x + 1 + k))) (t + rest)
  fewer_cuts x zero rest l c = absurd (omega arith)
  fewer_cuts x (suc t) rest l c =
      let f : ℕ → ℕ = λ k. one (cut shares len (x + 1 + k)) in
      let here : x + suc t ≡ x + 1 + t = omega arith in
      omega (arith, upto_add f (suc t) rest, cond-true {A = ℕ} (cut shares len (x + 1 + t)) 1 0 (ap (cut shares len) (sym here) ∙ c), upto_same (λ k. f (suc t + k)) (λ k. one (cut shares len (x + suc t + 1 + k))) rest (λ k _. ap (λ (y : ℕ). one (cut shares len y)) (omega arith)))
