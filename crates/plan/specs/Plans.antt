-- The card and the sheet that a file holds, and the file of a note, a card and a sheet.
use Rattle.std.specs.Prelude.{◌≡◌, ℕ, ◌+◌, ◌*◌, cond, ◌&&◌, List, ◌++◌, length, take, drop, ◌==◌, nat_le}
use Rattle.std.specs.List.{flat_map}
use Rattle.card.specs.declared.types.Card.{Card}
use Rattle.card.specs.Cards.{tasks_of}
use Rattle.card.specs.Verdicts.{Judged, fine}
use Rattle.sheet.specs.declared.types.Sheet.{Sheet}
use Rattle.plan.specs.File.{bytes_of, entry_bytes, card_at, sheet_at, cores_in, count_in, rows_in, note_in, tasks_in, shares_in, file_of, judged_file}

abbrev pub shares_of : Sheet → List ℕ
shares_of sheet = take (sheet.rows * sheet.count) sheet.shares

-- the card of a file; its entries are its bytes there
pub record CardRead (bs : List ℕ) (card : Card) : Type 0 where
  pub cores : card.cores ≡ cores_in bs
  pub count : card.count ≡ count_in bs
  pub tasks : tasks_of card ≡ tasks_in bs
  pub back : flat_map entry_bytes (tasks_in bs) ≡ take (8 * count_in bs) (drop (card_at bs) bs)

-- the sheet of a file; its shares are its bytes there
pub record SheetRead (bs : List ℕ) (sheet : Sheet) : Type 0 where
  pub rows : sheet.rows ≡ rows_in bs
  pub count : sheet.count ≡ count_in bs
  pub shares : shares_of sheet ≡ shares_in bs
  pub back : flat_map (bytes_of 4) (shares_in bs) ≡ take (4 * (rows_in bs * count_in bs)) (drop (sheet_at bs) bs)

-- no other card, or sheet, is that of the file
abbrev pub OneCard : List ℕ → Card → Type 0
OneCard bs card = (other : Card) → CardRead bs other → other ≡ card

abbrev pub OneSheet : List ℕ → Sheet → Type 0
OneSheet bs sheet = (other : Sheet) → SheetRead bs other → other ≡ sheet

-- a file that passes every check and holds this note, card and sheet
pub record Holds (bs note : List ℕ) (card : Card) (sheet : Sheet) : Type 0 where
  pub passes : judged_file bs ≡ fine
  pub words : note_in bs ≡ note
  pub tasks : CardRead bs card
  pub shares : SheetRead bs sheet

abbrev pub file_for : List ℕ → Card → Sheet → List ℕ
file_for note card sheet = file_of note card.cores (tasks_of card) sheet.rows (shares_of sheet)

-- the first check of the writer that fails, for an output of so many bytes
abbrev pub judged_write : List ℕ → Card → Sheet → ℕ → Judged
judged_write note card sheet room =
    cond (nat_le (length note) 255 && sheet.count == card.count)
    (cond (nat_le (length (file_for note card sheet)) room) fine (4, 0, 0))
    (3, 0, 0)

-- out, with bytes written over it from a place on
abbrev pub written : List ℕ → ℕ → List ℕ → List ℕ
written out at bs = take at out ++ (bs ++ drop (at + length bs) out)
