-- Cards and sheets written out, and the slices of a load.
use Rattle.std.specs.Prelude.{◌≡◌, ℕ, zero, suc, ◌+◌, ◌-◌, ◌*◌, ◌<◌, ◌≤◌, cond, List, [], ◌∷◌, ◌++◌, length, take, replicate, ◌==◌, slice_index_or, refl}
use Rattle.std.proofs.Common.{ap, ◌∙◌, arith, ⊎_elim}
use Rattle.std.proofs.lemmas.List.{length-append, length-replicate, get_or-append_right, get_or_past, get_or-replicate}
use Rattle.std.proofs.lemmas.Bool.{cases_lt}
use Rattle.card.specs.declared.types.Card.{Card}
use Rattle.card.specs.declared.types.Task.{Task}
use Rattle.card.specs.Cards.{nobody}
use Rattle.sheet.specs.declared.types.Sheet.{Sheet}
use Rattle.local.specs.declared.slice.Slice.{Slice}

-- a list with so many entries of one kind behind it
pub filled : {X : Type 0} (xs : List X) (n : ℕ) (d : X) → length xs ≤ n → length (xs ++ replicate (n - length xs) d) ≡ n
filled xs n d l = length-append xs (replicate (n - length xs) d) ∙ ap (λ (k : ℕ). length xs + k) (length-replicate (n - length xs) d) ∙ omega arith

pub behind : {X : Type 0} (xs : List X) (n i : ℕ) (d : X) → length xs ≤ i → slice_index_or (xs ++ replicate n d) i d ≡ d
behind xs n i d l =
    get_or-append_right xs (replicate n d) (length xs) i d refl l
    ∙ ⊎_elim (λ (s : i - length xs < n). get_or-replicate n (i - length xs) d d s) (λ (s : n ≤ i - length xs). get_or_past (replicate n d) (i - length xs) d (omega (arith, length-replicate n d, s))) (cases_lt (i - length xs) n)

abbrev pub task : ℕ → ℕ → Task
task period run = record { period = period; run_time = run }

-- a card of these tasks
abbrev pub card_of : (cores : ℕ) (tasks : List Task) → 1 ≤ cores → cores ≤ 16 → 1 ≤ length tasks → length tasks ≤ 32 → Card
card_of cores tasks some few some_tasks tasks_few = record {
  cores = cores;
  count = length tasks;
  tasks = tasks ++ replicate (32 - length tasks) nobody;
  some_cores = some;
  few_cores = few;
  some_tasks = some_tasks;
  few_tasks = tasks_few;
  table = filled tasks 32 nobody tasks_few;
  rest = λ i l. behind tasks (32 - length tasks) i nobody l;
}

-- a sheet of these shares, row by row
abbrev pub sheet_of : (rows count : ℕ) (shares : List ℕ) → 1 ≤ rows → rows ≤ 128 → 1 ≤ count → count ≤ 32 → length shares ≡ rows * count → length shares ≤ 4096 → Sheet
sheet_of rows count shares some few some_shares few_shares whole within = record {
  rows = rows;
  count = count;
  shares = shares ++ replicate (4096 - length shares) 0;
  some_rows = some;
  few_rows = few;
  some_shares = some_shares;
  few_shares = few_shares;
  table = filled shares 4096 0 within;
  rest = λ i l. behind shares (4096 - length shares) i 0 (omega (arith, whole, l));
}

-- at most n slices from a state on, each with the seats of its cores, by a rule's ticks left, choice and next state
abbrev pub slices : {V : Type 0} → (V → ℕ) → (V → Slice) → (V → V) → (width n : ℕ) → V → List (ℕ × List ℕ)
slices left choice after width zero v = []
slices left choice after width (suc n) v = cond (left v == 0) [] (((choice v).length, take width (choice v).seats) ∷ slices left choice after width n (after v))
