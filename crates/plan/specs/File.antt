-- The bytes of a plan file: a note, N task entries, K × N shares, and the trailer. Every number is big-endian.
use Rattle.std.specs.Prelude.{ℕ, zero, suc, ◌+◌, ◌-◌, ◌*◌, ◌/◌, ◌%◌, ◌^◌, Bool, cond, ◌&&◌, List, [], ◌∷◌, ◌++◌, length, take, drop, ◌==◌, nat_le, nat_lt}
use Rattle.std.specs.List.{flat_map}
use Rattle.card.specs.declared.types.Task.{Task}
use Rattle.card.specs.Limits.{counted}
use Rattle.card.specs.Verdicts.{Judged, fine}

-- x in w bytes, the highest first
abbrev pub bytes_of : ℕ → ℕ → List ℕ
bytes_of zero x = []
bytes_of (suc w) x = (x / 256 ^ w % 256) ∷ bytes_of w x

-- the number that bytes make
abbrev pub number_of : List ℕ → ℕ
number_of [] = 0
number_of (b ∷ bs) = b * 256 ^ length bs + number_of bs

-- n parts of w bytes each, read by f
abbrev pub parts : {X : Type 0} → ℕ → (List ℕ → X) → ℕ → List ℕ → List X
parts w f zero bs = []
parts w f (suc n) bs = f (take w bs) ∷ parts w f n (drop w bs)

-- a task entry: period and run time, in eight bytes
abbrev pub entry_width : ℕ
entry_width = 8

abbrev pub entry_bytes : Task → List ℕ
entry_bytes t = bytes_of 4 t.period ++ bytes_of 4 t.run_time

abbrev pub entry_of : List ℕ → Task
entry_of bs = record { period = number_of (take 4 bs); run_time = number_of (drop 4 bs) }

-- the trailer, the last twelve bytes: card offset, sheet offset, M, N, K
unfoldable pub trailer_bytes : ℕ → ℕ → ℕ → ℕ → ℕ → List ℕ
trailer_bytes card sheet m n k = bytes_of 4 card ++ (bytes_of 4 sheet ++ (bytes_of 1 m ++ (bytes_of 1 n ++ bytes_of 2 k)))

-- the number of w bytes at a place of the trailer
unfoldable pub field : ℕ → ℕ → List ℕ → ℕ
field at w bs = number_of (take w (drop at (drop (length bs - 12) bs)))

abbrev pub card_at : List ℕ → ℕ
card_at bs = field 0 4 bs

abbrev pub sheet_at : List ℕ → ℕ
sheet_at bs = field 4 4 bs

abbrev pub cores_in : List ℕ → ℕ
cores_in bs = field 8 1 bs

abbrev pub count_in : List ℕ → ℕ
count_in bs = field 9 1 bs

abbrev pub rows_in : List ℕ → ℕ
rows_in bs = field 10 2 bs

-- M, N and K are within their limits
abbrev pub within_limits : ℕ → ℕ → ℕ → Bool
within_limits m n k = counted m n && (nat_le 1 k && nat_le k 128)

-- the offsets and the length are those of a note of at most 255 bytes, n tasks and k rows
abbrev pub laid_out : ℕ → ℕ → ℕ → ℕ → ℕ → Bool
laid_out size card sheet n k = nat_le card 255 && sheet == card + entry_width * n && size == sheet + 4 * (k * n) + 12

-- the first check that fails
abbrev pub judged_file : List ℕ → Judged
judged_file bs =
    cond (nat_lt (length bs) 12) (1, 0, 0)
    (cond (within_limits (cores_in bs) (count_in bs) (rows_in bs))
    (cond (laid_out (length bs) (card_at bs) (sheet_at bs) (count_in bs) (rows_in bs)) fine (3, 0, 0))
    (2, 0, 0))

-- what a file holds
abbrev pub note_in : List ℕ → List ℕ
note_in bs = take (card_at bs) bs

-- the note of a file that passes every check; of any other none
abbrev pub note_or : List ℕ → List ℕ
note_or bs = cond ((judged_file bs).0 == 0) (note_in bs) []

abbrev pub tasks_in : List ℕ → List Task
tasks_in bs = parts entry_width entry_of (count_in bs) (drop (card_at bs) bs)

abbrev pub shares_in : List ℕ → List ℕ
shares_in bs = parts 4 number_of (rows_in bs * count_in bs) (drop (sheet_at bs) bs)

-- the bytes of a file with this note, M, tasks, K and shares
abbrev pub file_of : List ℕ → ℕ → List Task → ℕ → List ℕ → List ℕ
file_of note m tasks k shares =
    note ++ (flat_map entry_bytes tasks ++ (flat_map (bytes_of 4) shares
    ++ trailer_bytes (length note) (length note + entry_width * length tasks) m (length tasks) k))
