-- What holds of one thing holds of it repeated.
use Rattle.std.proofs.Common.{◌≡◌, ℕ, zero, suc, get_or, replicate, refl}
use Rattle.std.specs.List.{AllByRecursion}

pub all_replicate : {X : Type 0} (P : X → Type 0) (n : ℕ) (x : X) → P x → AllByRecursion P (replicate n x)
all_replicate P zero x p = tt
all_replicate P (suc n) x p = (p, all_replicate P n x p)

pub get_or_replicate_same : {X : Type 0} (n i : ℕ) (x : X) → get_or (replicate n x) i x ≡ x
get_or_replicate_same zero i x = refl
get_or_replicate_same (suc n) zero x = refl
get_or_replicate_same (suc n) (suc i) x = get_or_replicate_same n i x
