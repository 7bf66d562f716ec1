-- Loading shares that fit.
use Rattle.std.proofs.Common.{◌≡◌, ℕ, zero, suc, ◌+◌, ◌-◌, ◌≤◌, cond, eqb, List, [], ◌∷◌, ◌++◌, ◌*◌, length, take, replicate, sum_by, sum, sym, refl, ap, ◌∙◌, ⊎_elim, arith}
use Rattle.std.proofs.lemmas.Bool.{cases_lt, cond-false, ne_eqb}
use Rattle.std.proofs.lemmas.List.{get_or_past, get_or_append_left, get_or-append_right, take_all, length-append, length-replicate}
use Rattle.std.proofs.lemmas.List.Sums.{sum_by-append}
use Rattle.std.proofs.lemmas.List.Folds.{sum_by-replicate}
use Rattle.std.proofs.lemmas.List.FromFn.{fill_by_all}
use Rattle.std.proofs.ByRecursion.{All-get_or}
use Rattle.chart.specs.Sums.{upto}
use Rattle.chart.proofs.Ranges.{upto_same, sum_by_made, sum_take}
use Rattle.local.specs.Masks.{bit}
use Rattle.local.specs.Meaning.{Fit, Loaded, amount_of, share_of, positive}
use Rattle.wrap.specs.Wrap.{Interval, share_at, largest, line_end, padded, loaded, allowance, cut}
use Rattle.wrap.proofs.Amounts.{amount_whole}
use Rattle.wrap.proofs.Slices.{some_cut, cuts_few}
use Rattle.wrap.proofs.Meant.{meant, Good, amount_told, amount_past}

pub line_sum : (shares : List ℕ) → line_end shares (length shares) ≡ sum shares
line_sum shares = sym (sum_take shares (length shares)) ∙ ap sum (take_all (length shares) shares (omega arith))

pub under_largest : (shares : List ℕ) (i : ℕ) → share_at shares i ≤ largest shares
under_largest [] i = omega arith
under_largest (x ∷ xs) zero = omega arith
under_largest (x ∷ xs) (suc i) = omega (arith, under_largest xs i)

pub largest_under : (shares : List ℕ) (len : ℕ) → ((i : ℕ) → share_at shares i ≤ len) → largest shares ≤ len
largest_under [] len each = omega arith
largest_under (x ∷ xs) len each = omega (arith, each 0, largest_under xs len (λ i. each (suc i)))

zeros : (k i : ℕ) → share_at (replicate k 0) i ≡ 0
zeros zero i = refl
zeros (suc k) zero = refl
zeros (suc k) (suc i) = zeros k i

sum_places : (f : ℕ → ℕ) (xs : List ℕ) → upto (λ i. f (share_at xs i)) (length xs) ≡ sum_by f xs
sum_places f xs = sym (ap (sum_by f) (fill_by_all (share_at xs) xs (length xs) 0 refl (λ _ _. refl)) ∙ sum_by_made f (share_at xs) (length xs))

module _ (shares : List ℕ) (few : length shares ≤ 32) where
  abbrev k : ℕ
  k = 32 - length shares

  abbrev rest : List ℕ
  rest = replicate k 0

  length_padded : length (padded shares) ≡ 32
  length_padded = omega (arith, length-append (take 32 shares) rest, ap length (take_all 32 shares few), length-replicate {A = ℕ} k 0)

  share_padded : (i : ℕ) → share_at (padded shares) i ≡ share_at shares i
  share_padded i =
      ap (λ (xs : List ℕ). share_at (xs ++ rest) i) (take_all 32 shares few)
      ∙ ⊎_elim
      (λ l. get_or_append_left shares rest 0 i l)
      (λ l. get_or-append_right shares rest (length shares) i 0 refl l ∙ zeros k (i - length shares) ∙ sym (get_or_past shares i 0 l))
      (cases_lt i (length shares))

  -- a sum over the shares is one over the whole table
  sum_padded : (f : ℕ → ℕ) → f 0 ≡ 0 → upto (λ i. f (share_at (padded shares) i)) (length (padded shares)) ≡ sum_by f shares
  sum_padded f z =
      let none : k * f 0 ≡ k * 0 = ap (λ (n : ℕ). k * n) z in
      omega (arith, sum_places f (padded shares), sum_by-append f (take 32 shares) rest, ap (sum_by f) (take_all 32 shares few), sum_by-replicate f k 0, none)

module _ (width len : ℕ) (shares : List ℕ) (fit : Fit width len shares) where
  few : length shares ≤ 32
  few = fit.limits.4

  abbrev v : Interval
  v = loaded width len shares

  at_start : len - len ≡ 0
  at_start = omega arith

  pub loaded_good : Good v
  loaded_good = record {
    wide = fit.limits.1;
    within = omega arith;
    size = length_padded shares few;
    narrow = λ i. ⊎_elim
        (λ l. omega (arith, share_padded shares few i, All-get_or (λ (y : ℕ). y ≤ len) shares i 0 l fit.narrow))
        (λ l. omega (arith, share_padded shares few i, get_or_past shares i 0 l))
        (cases_lt i (length shares));
    room = omega (arith, sum_padded shares few (λ y. y) refl, fit.room);
  }

  share_of_lem : (i : ℕ) → share_of shares (suc i) ≡ share_at shares i
  share_of_lem i = cond-false (eqb (suc i) 0) 0 (share_at shares (suc i - 1)) (ne_eqb (suc i) 0 (λ e. omega arith)) ∙ ap (share_at shares) (omega arith)

  amounts : (task : ℕ) → amount_of meant v task ≡ share_of shares task
  amounts zero = refl
  amounts (suc i) = ⊎_elim
      (λ past. amount_past v (suc i) past ∙ sym (share_of_lem i ∙ get_or_past shares i 0 (omega (arith, few))))
      (λ l.
      amount_told v (suc i) (omega arith) l
      ∙ amount_whole (padded shares) len width i (len - len) at_start (omega (arith, length_padded shares few)) loaded_good.room
      ∙ share_padded shares few i
      ∙ sym (share_of_lem i))
      (cases_lt 32 (suc i))

  few_slices : allowance v ≤ positive shares + 1
  few_slices = omega (
    arith,
    upto_same (λ k. cond (cut (padded shares) len (len - len + 1 + k)) 1 0) (λ k. cond (cut (padded shares) len (1 + k)) 1 0) len (λ k _. ap (λ (y : ℕ). cond (cut (padded shares) len y) 1 0) (omega arith)),
    cuts_few (padded shares) len (length (padded shares)) len,
    sum_padded shares few bit refl,
  )

  pub load_told : (v₀ : Interval) → Loaded meant v₀ width len shares v
  load_told v₀ = record {
    fit = fit;
    cores = refl;
    ticks = refl;
    amounts = amounts;
    some_slice = some_cut (padded shares) len (len - len) len (omega arith) fit.limits.2;
    few_slices = few_slices;
    goes = refl;
  }
