-- The front of a table, and what stands behind it.
use Rattle.std.proofs.Common.{◌≡◌, ℕ, ◌-◌, ◌<◌, ◌≤◌, ◌++◌, List, length, get_or, take, replicate, ap, ◌∙◌, ⊎_elim, arith}
use Rattle.std.proofs.lemmas.List.{length-take-le, length-replicate, take_all, take-append-le, get_or-append_right, get_or_past, get_or-replicate}
use Rattle.std.proofs.lemmas.Bool.{cases_lt}

module _ {X : Type 0} (xs : List X) (n m : ℕ) (d : X) (there : n ≤ length xs) (room : n ≤ m) where
  abbrev pub padding : List X
  padding = take m (take n xs) ++ replicate (m - length (take n xs)) d

  whole : take m (take n xs) ≡ take n xs
  whole = take_all m (take n xs) (omega (arith, length-take-le n xs there))

  pub padding_front : take n padding ≡ take n xs
  padding_front =
      take-append-le n (take m (take n xs)) (replicate (m - length (take n xs)) d) (omega (arith, ap length whole, length-take-le n xs there))
      ∙ ap (take n) whole ∙ take_all n (take n xs) (omega (arith, length-take-le n xs there))

  pub padding_behind : (i : ℕ) → n ≤ i → get_or padding i d ≡ d
  padding_behind i past =
      let size : length (take m (take n xs)) ≡ n = omega (arith, ap length whole, length-take-le n xs there) in
      let more : List X = replicate (m - length (take n xs)) d in
      get_or-append_right (take m (take n xs)) more n i d size past
      ∙ ⊎_elim
      (λ (l : i - n < m - length (take n xs)). get_or-replicate (m - length (take n xs)) (i - n) d d l)
      (λ (l : m - length (take n xs) ≤ i - n). get_or_past more (i - n) d (omega (arith, length-replicate (m - length (take n xs)) d)))
      (cases_lt (i - n) (m - length (take n xs)))
