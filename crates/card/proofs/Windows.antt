-- The shares of the intervals in a window add up to what lies between the window's ends.
use Rattle.std.proofs.Common.{◌≡◌, ℕ, zero, suc, ◌+◌, ◌<◌, ◌≤◌, min, max, Bool, true, ap, ◌∙◌, ⊎_elim, arith}
use native.Mathlib.Nat as law
use Rattle.std.proofs.lemmas.Bool.{cases_lt}
use Rattle.card.proofs.Bounds.{Marked, mark_upto}
use Rattle.chart.specs.Sums.{upto}
use Rattle.chart.proofs.Ranges.{inside, inside_in, inside_low, inside_high}
use Rattle.chart.proofs.Rising.{below, under, in_order}

-- a window from interval a up to interval c
module _ (b : ℕ → ℕ) (n : ℕ) (rise : (k : ℕ) → k < n → b k < b (suc k)) (s : ℕ → ℕ) (a c : ℕ) (order : a ≤ c) (within : c ≤ n) where
  -- m moved into the window
  abbrev clamp : ℕ → ℕ
  clamp m = max a (min c m)

  partial : (m : ℕ) → m ≤ n → upto (λ k. inside (b a) (b c) (b k) (s k)) m + upto s a ≡ upto s (clamp m)
  partial zero l = let e : a ≡ clamp 0 = omega arith in omega (arith, ap (upto s) e)
  partial (suc m) l =
      let ih = partial m (omega arith) in
      ⊎_elim
      (λ low. let e : clamp m ≡ clamp (suc m) = omega arith in omega (arith, ih, ap (upto s) e, inside_low (b a) (b c) (b m) (s m) (under b n rise m a low (omega arith))))
      (λ above. ⊎_elim
      (λ here. let e : clamp m ≡ m = omega arith in let d : clamp (suc m) ≡ suc m = omega arith in omega (arith, ih, ap (upto s) e, ap (upto s) d, inside_in (b a) (b c) (b m) (s m) (below b n rise a m above (omega arith)) (under b n rise m c here within)))
      (λ high. let e : clamp m ≡ clamp (suc m) = omega arith in omega (arith, ih, ap (upto s) e, inside_high (b a) (b c) (b m) (s m) (below b n rise c m high (omega arith))))
      (cases_lt m c))
      (cases_lt m a)

  pub window_total : upto (λ k. inside (b a) (b c) (b k) (s k)) n + upto s a ≡ upto s c
  window_total = let e : clamp n ≡ c = omega arith in omega (arith, partial n (law.le_refl n), ap (upto s) e)

-- a window from u up to v, where g grows by the shares
module _ {p : ℕ → Bool} {h n : ℕ} {b : ℕ → ℕ} (marked : Marked p h n b) (g s : ℕ → ℕ) (adds : (k : ℕ) → k < n → s k + g (b k) ≡ g (b (suc k))) (u v : ℕ) (order : u ≤ v) (within : v ≤ h) (pu : p u ≡ true) (pv : p v ≡ true) where
  sums : (k : ℕ) → k ≤ n → upto s k + g (b 0) ≡ g (b k)
  sums zero l = omega arith
  sums (suc k) l = omega (arith, sums k (omega arith), adds k l)

  pub window : upto (λ k. inside u v (b k) (s k)) n + g u ≡ g v
  window =
      let x = mark_upto marked u (omega arith) pu in
      let y = mark_upto marked v within pv in
      let w = window_total b n marked.rise s x.0 y.0 (in_order b n marked.rise x.0 y.0 x.1 (omega (arith, x.2, y.2))) y.1 in
      let q : upto (λ k. inside (b x.0) (b y.0) (b k) (s k)) n ≡ upto (λ k. inside u v (b k) (s k)) n = ap (λ (z : ℕ). upto (λ k. inside z (b y.0) (b k) (s k)) n) x.2 ∙ ap (λ (z : ℕ). upto (λ k. inside u z (b k) (s k)) n) y.2 in
      omega (arith, w, q, sums x.0 x.1, sums y.0 y.1, ap g x.2, ap g y.2)
