use Rattle.std.proofs.Common.{◌≡◌, ◌-◌, ◌++◌, length, take, drop, replicate, ℕ, min, List, arith, refl}
use Rattle.std.proofs.lemmas.List.{take_min, drop-replicate}
use Rattle.table.proofs.padded.Goals as goal

filled : {A : Type 0} (xs : List A) (n : ℕ) (a : A) (m : ℕ) → m ≡ min n (length xs) → take m xs ++ drop m (replicate n a) ≡ take n xs ++ replicate (n - length xs) a
filled xs n a m e =
    let k : n - min n (length xs) ≡ n - length xs = omega arith in
    rw (e, take_min n xs, drop-replicate (min n (length xs)) n a, k) refl

pub returns : goal.returns
returns g c = rw c.copy_from_slice.ensures.after (filled _ _ _ _ c.fitting-n.ensures)
