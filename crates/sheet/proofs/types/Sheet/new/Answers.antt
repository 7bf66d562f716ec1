use Rattle.std.proofs.Common.{◌≡◌, ℕ, ◌*◌, ◌≤◌, List, ◌++◌, length, take, ap, ◌∙◌, arith, refl}
use Rattle.std.proofs.lemmas.Bool.{and_parts, leb-true}
use Rattle.std.proofs.lemmas.List.{length-take-le, take_all, take-append-le}
use Rattle.sheet.proofs.Rooms.{rows_room}
use Rattle.sheet.proofs.types.Sheet.new.Goals as goal

front : (n m : ℕ) (xs zs : List ℕ) → n ≤ m → n ≤ length xs → take n (take m (take n xs) ++ zs) ≡ take n xs
front n m xs zs small there =
    let long = length-take-le n xs there in
    ap (λ (ys : List ℕ). take n (ys ++ zs)) (take_all m (take n xs) (omega arith)) ∙ take-append-le n (take n xs) zs (omega arith) ∙ take_all n (take n xs) (omega arith)

pub returns-clause-made : goal.returns-clause-made
returns-clause-made c =
    let h = c.if-not-within_limits.ensures in
    let small : c.args.rows * c.args.count ≤ 4096 = rows_room c.args.rows c.args.count (grind (arith, and_parts, leb-true, h)) (grind (arith, and_parts, leb-true, h)) in
    (refl, refl, rw (c.padded.ensures, c.from.ensures, c.from-2.ensures) (front (c.args.rows * c.args.count) 4096 c.args.shares.now _ small (omega arith)))
