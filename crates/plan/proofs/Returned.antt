-- What is written is read back.
use Rattle.std.proofs.Common.{◌≡◌, ℕ, ◌+◌, ◌-◌, ◌*◌, ◌^◌, ◌<◌, ◌≤◌, true, false, ltb, List, ◌++◌, map, length, take, drop, sym, refl, ap, ◌∙◌, arith}
use Rattle.std.specs.List.{flat_map}
use Rattle.std.proofs.lemmas.List.{append_assoc, drop_at, length-append, take_at}
use Rattle.std.proofs.lemmas.Bool.{eq-eqb, le-leb, le-ltb}
use Rattle.card.specs.declared.types.Card.{Card}
use Rattle.card.specs.Cards.{tasks_of}
use Rattle.card.specs.Verdicts.{fine}
use Rattle.sheet.specs.declared.types.Sheet.{Sheet}
use Rattle.plan.specs.File.{bytes_of, card_at, cores_in, count_in, entry_bytes, entry_of, field, judged_file, laid_out, number_of, parts, rows_in, sheet_at, trailer_bytes, within_limits}
use Rattle.plan.specs.Plans.{Holds, file_for, shares_of}
use Rattle.plan.proofs.Parts.{parts_joined}
use Rattle.plan.proofs.Pieces.{length_joined}
use Rattle.plan.proofs.Sizes.{length_file, length_shares, length_tasks}

-- the fields of a file that ends with a trailer
pub record Fields (bs : List ℕ) (c s m n k : ℕ) : Type 0 where
  pub card : card_at bs ≡ c
  pub sheet : sheet_at bs ≡ s
  pub cores : cores_in bs ≡ m
  pub count : count_in bs ≡ n
  pub rows : rows_in bs ≡ k

fields : (bs : List ℕ) (c s m n k : ℕ) → drop (length bs - 12) bs ≡ trailer_bytes c s m n k → c < 256 → s < 2 ^ 16 → m < 256 → n < 256 → k < 2 ^ 16 → Fields bs c s m n k
unfolding field trailer_bytes
fields bs c s m n k foot hc hs hm hn hk =
    let part : ℕ → ℕ → List ℕ → ℕ = λ i w ys. number_of (take w (drop i ys)) in
    record {
      card = ap (part 0 4) foot ∙ omega arith;
      sheet = ap (part 4 4) foot ∙ omega arith;
      cores = ap (part 8 1) foot ∙ omega arith;
      count = ap (part 9 1) foot ∙ omega arith;
      rows = ap (part 10 2) foot ∙ omega arith;
    }

within : (m n k : ℕ) → 1 ≤ m → m ≤ 16 → 1 ≤ n → n ≤ 32 → 1 ≤ k → k ≤ 128 → within_limits m n k ≡ true
within m n k a b c d e f = cc (le-leb 1 m a, le-leb m 16 b, le-leb 1 n c, le-leb n 32 d, le-leb 1 k e, le-leb k 128 f)

laid : (size c s n k : ℕ) → c ≤ 255 → s ≡ c + 8 * n → size ≡ s + 4 * (k * n) + 12 → laid_out size c s n k ≡ true
laid size c s n k a b d = cc (le-leb c 255 a, eq-eqb s (c + 8 * n) b, eq-eqb size (s + 4 * (k * n) + 12) d)

passing : (bs : List ℕ) → ltb (length bs) 12 ≡ false → within_limits (cores_in bs) (count_in bs) (rows_in bs) ≡ true
    → laid_out (length bs) (card_at bs) (sheet_at bs) (count_in bs) (rows_in bs) ≡ true → judged_file bs ≡ fine
passing bs a b c = cc

-- parts at a place of the bytes
read_at : {X : Type 0} (w : ℕ) (enc : X → List ℕ) (dec : List ℕ → X) (bs rest : List ℕ) (xs : List X) (at place count : ℕ)
    → ((x : X) → length (enc x) ≡ w) → drop at bs ≡ flat_map enc xs ++ rest → map (λ x. dec (enc x)) xs ≡ xs → place ≡ at → count ≡ length xs
    → parts w dec count (drop place bs) ≡ xs
read_at w enc dec bs rest xs at place count wide here back p q =
    ap (λ (k : ℕ). parts w dec k (drop place bs)) q ∙ ap (λ (k : ℕ). parts w dec (length xs) (drop k bs)) p ∙ ap (parts w dec (length xs)) here ∙ parts_joined w enc dec wide xs rest ∙ back

-- the bytes there
bytes_at : {X : Type 0} (w : ℕ) (enc : X → List ℕ) (bs rest : List ℕ) (xs : List X) (at place count : ℕ)
    → ((x : X) → length (enc x) ≡ w) → drop at bs ≡ flat_map enc xs ++ rest → place ≡ at → count ≡ length xs → take (w * count) (drop place bs) ≡ flat_map enc xs
bytes_at w enc bs rest xs at place count wide here p q =
    ap (λ (k : ℕ). take (w * k) (drop place bs)) q ∙ ap (λ (k : ℕ). take (w * length xs) (drop k bs)) p ∙ ap (take (w * length xs)) here
    ∙ take_at (flat_map enc xs) rest (w * length xs) (length_joined w enc wide xs)

pub holds : (note : List ℕ) (card : Card) (sheet : Sheet) → length note ≤ 255 → sheet.count ≡ card.count
    → map (λ t. entry_of (entry_bytes t)) (tasks_of card) ≡ tasks_of card → map (λ x. number_of (bytes_of 4 x)) (shares_of sheet) ≡ shares_of sheet
    → Holds (file_for note card sheet) note card sheet
holds note card sheet short same tasks shares =
    let bs = file_for note card sheet in
    let n = length (tasks_of card) in
    let a = length note in
    let b = length note + 8 * n in
    let e = flat_map entry_bytes (tasks_of card) in
    let s = flat_map (bytes_of 4) (shares_of sheet) in
    let t = trailer_bytes a b card.cores n sheet.rows in
    let size = length_file note card sheet same in
    let few = length_tasks card in
    let le : length e ≡ 8 * n = length_joined 8 entry_bytes (λ y. refl) (tasks_of card) in
    let ls : length s ≡ 4 * length (shares_of sheet) = length_joined 4 (bytes_of 4) (λ y. refl) (shares_of sheet) in
    let cells : sheet.rows * sheet.count ≡ sheet.rows * card.count = ap (λ (k : ℕ). sheet.rows * k) same in
    let whole : (note ++ (e ++ s)) ++ t ≡ bs = append_assoc note (e ++ s) t ∙ ap (λ l. note ++ l) (append_assoc e s t) in
    let before : length (note ++ (e ++ s)) ≡ length bs - 12 =
    length-append note (e ++ s) ∙ omega (arith, length-append e s, length_shares sheet) in
    let f : Fields bs a b card.cores n sheet.rows =
    fields bs a b card.cores n sheet.rows (ap (drop (length bs - 12)) (sym whole) ∙ drop_at (note ++ (e ++ s)) t (length bs - 12) before)
    (omega arith) (omega (arith, card.few_tasks)) (omega (arith, card.few_cores)) (omega (arith, card.few_tasks)) (omega (arith, sheet.few_rows)) in
    let at_card : drop a bs ≡ e ++ (s ++ t) = drop_at note (e ++ (s ++ t)) a refl in
    let at_sheet : drop b bs ≡ s ++ t =
    ap (drop b) (sym (append_assoc note e (s ++ t))) ∙ drop_at (note ++ e) (s ++ t) b (length-append note e ∙ omega arith) in
    let count : rows_in bs * count_in bs ≡ length (shares_of sheet) = cc (f.rows, f.count, few, length_shares sheet) in
    let task_list = read_at 8 entry_bytes entry_of bs (s ++ t) (tasks_of card) a (card_at bs) (count_in bs) (λ y. refl) at_card tasks f.card f.count in
    let share_list = read_at 4 (bytes_of 4) number_of bs t (shares_of sheet) b (sheet_at bs) (rows_in bs * count_in bs) (λ y. refl) at_sheet shares f.sheet count in
    record {
      passes =
          passing bs (le-ltb (length bs) 12 (omega arith))
          (within (cores_in bs) (count_in bs) (rows_in bs) (omega (arith, card.some_cores)) (omega (arith, card.few_cores)) (omega (arith, card.some_tasks)) (omega (arith, card.few_tasks)) (omega (arith, sheet.some_rows)) (omega (arith, sheet.few_rows)))
          (laid (length bs) (card_at bs) (sheet_at bs) (count_in bs) (rows_in bs) (omega arith) (omega arith) (omega (arith, length_shares sheet)));
      words = ap (λ (k : ℕ). take k bs) f.card ∙ take_at note (e ++ (s ++ t)) a refl;
      tasks =
          record {
            cores = sym f.cores;
            count = sym few ∙ sym f.count;
            tasks = sym task_list;
            back = ap (flat_map entry_bytes) task_list ∙ sym (bytes_at 8 entry_bytes bs (s ++ t) (tasks_of card) a (card_at bs) (count_in bs) (λ y. refl) at_card f.card f.count);
          };
      shares =
          record {
            rows = sym f.rows;
            count = same ∙ sym few ∙ sym f.count;
            shares = sym share_list;
            back = ap (flat_map (bytes_of 4)) share_list ∙ sym (bytes_at 4 (bytes_of 4) bs t (shares_of sheet) b (sheet_at bs) (rows_in bs * count_in bs) (λ y. refl) at_sheet f.sheet count);
          };
    }
