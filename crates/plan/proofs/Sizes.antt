-- How many tasks, shares and bytes there are.
use Rattle.std.proofs.Common.{◌≡◌, ℕ, ◌+◌, ◌*◌, List, ◌++◌, length, refl, ap, ◌∙◌, mul-le-mul, arith}
use Rattle.std.specs.List.{flat_map}
use Rattle.std.proofs.lemmas.List.{length-append, length-take-le}
use Rattle.card.specs.declared.types.Card.{Card}
use Rattle.card.specs.Cards.{tasks_of}
use Rattle.sheet.specs.declared.types.Sheet.{Sheet}
use Rattle.plan.specs.File.{bytes_of, entry_bytes, trailer_bytes}
use Rattle.plan.specs.Plans.{file_for, shares_of}
use Rattle.plan.proofs.Pieces.{length_joined}

pub length_tasks : (card : Card) → length (tasks_of card) ≡ card.count
length_tasks card = length-take-le card.count card.tasks (omega (arith, card.table, card.few_tasks))

pub length_shares : (sheet : Sheet) → length (shares_of sheet) ≡ sheet.rows * sheet.count
length_shares sheet = length-take-le (sheet.rows * sheet.count) sheet.shares (omega (arith, sheet.table, mul-le-mul sheet.few_rows sheet.few_shares))

pub length_file : (note : List ℕ) (card : Card) (sheet : Sheet) → sheet.count ≡ card.count
    → length (file_for note card sheet) ≡ length note + 8 * card.count + 4 * (sheet.rows * card.count) + 12
unfolding trailer_bytes
length_file note card sheet same =
    let e = flat_map entry_bytes (tasks_of card) in
    let s = flat_map (bytes_of 4) (shares_of sheet) in
    let n = length (tasks_of card) in
    let t = trailer_bytes (length note) (length note + 8 * n) card.cores n sheet.rows in
    let twelve : length t ≡ 12 = refl in
    let cells : sheet.rows * sheet.count ≡ sheet.rows * card.count = ap (λ (k : ℕ). sheet.rows * k) same in
    length-append note (e ++ (s ++ t))
    ∙ omega (arith, length-append e (s ++ t), length-append s t, length_joined 8 entry_bytes (λ y. refl) (tasks_of card), length_joined 4 (bytes_of 4) (λ y. refl) (shares_of sheet), length_tasks card, length_shares sheet)
