-- A sheet is judged fine, for a card with periods, exactly when it meets the equations.
use Rattle.std.proofs.Common.{◌≡◌, ℕ, ◌+◌, ◌*◌, ◌/◌, ◌<◌, ◌≤◌, ◌&&◌, eqb, ltb, List, [], ◌∷◌, length, get_or, drop, sum, sym, refl, ◌∙◌, subst, ⊎_elim, add-one, arith}
use native.Mathlib.Nat as law
use Rattle.std.specs.List.{range_with_len, AllByRecursion}
use Rattle.std.proofs.lemmas.List.{get_or-take, get_or-drop, get_or_past, length-take}
use Rattle.std.proofs.ByRecursion.{All-get_or, All-from_get_or}
use Rattle.std.proofs.lemmas.Bool.{ltb-false, le-ltb, eqb-true, eq-eqb, and_parts, and_from, cases_lt}
use Rattle.card.specs.declared.types.Card.{Card}
use Rattle.sheet.specs.declared.types.Sheet.{Sheet}
use Rattle.card.specs.Cards.{period_of, run_time_of, boundaries, span, opens, closes}
use Rattle.sheet.specs.Sheets.{row, share}
use Rattle.card.specs.Verdicts.{fine, each}
use Rattle.sheet.specs.Verdicts.{judged_shares, judged_row, in_window, judged_job, judged_sheet, Meets, judged_jobs}
use Rattle.card.proofs.Judges.{Ok, Clean, ok_or_else, or_else_ok, clean_or_else, ok_unless, unless_ok, ok_when, when_ok, clean_when, ok_below, below_ok, clean_each}

pub ok_shares : (len k i : ℕ) (xs : List ℕ) → Ok (judged_shares len k i xs) → AllByRecursion (λ x. x ≤ len) xs
ok_shares len k i [] e = tt
ok_shares len k i (x ∷ xs) e = let p = ok_unless (ltb len x) (22, k, i) (judged_shares len k (i + 1) xs) (λ z. omega arith) e in (ltb-false len x p.0, ok_shares len k (i + 1) xs p.1)

pub shares_ok : (len k i : ℕ) (xs : List ℕ) → AllByRecursion (λ x. x ≤ len) xs → Ok (judged_shares len k i xs)
shares_ok len k i [] all = refl
shares_ok len k i (x ∷ xs) all = unless_ok (ltb len x) (22, k, i) (judged_shares len k (i + 1) xs) (le-ltb len x all.0) (shares_ok len k (i + 1) xs all.1)

-- the shares of a row by their places; past the list they are 0
pub row_share : (sheet : Sheet) (k i : ℕ) → i < sheet.count → get_or (row sheet k) i 0 ≡ share sheet k i
row_share sheet k i l = get_or-take sheet.count (drop (k * sheet.count) sheet.shares) i 0 l ∙ get_or-drop (k * sheet.count) sheet.shares i 0

pub all_row : (sheet : Sheet) (k len : ℕ) → AllByRecursion (λ x. x ≤ len) (row sheet k) → (i : ℕ) → i < sheet.count → share sheet k i ≤ len
all_row sheet k len all i l = ⊎_elim
    (λ there. omega (arith, row_share sheet k i l, All-get_or (λ x. x ≤ len) (row sheet k) i 0 there all))
    (λ past. omega (arith, row_share sheet k i l, get_or_past (row sheet k) i 0 past))
    (cases_lt i (length (row sheet k)))

pub row_all : (sheet : Sheet) (k len : ℕ) → ((i : ℕ) → i < sheet.count → share sheet k i ≤ len) → AllByRecursion (λ x. x ≤ len) (row sheet k)
row_all sheet k len each = All-from_get_or (λ x. x ≤ len) (row sheet k) 0 (λ i l. let m : i < sheet.count = omega (arith, length-take sheet.count (drop (k * sheet.count) sheet.shares)) in omega (arith, row_share sheet k i m, each i m))

module _ (card : Card) (h : ℕ) (sheet : Sheet) (some : (i : ℕ) → i < card.count → 1 ≤ period_of card i) where
  pub ok_row : (k : ℕ) → Ok (judged_row card h sheet k) → ((i : ℕ) → i < sheet.count → share sheet k i ≤ span card h k) × (sum (row sheet k) ≤ card.cores * span card h k)
  ok_row k e =
      let p = ok_or_else (judged_shares (span card h k) (k + 1) 1 (row sheet k)) _ e in
      let b = ok_unless (ltb (card.cores * span card h k) (sum (row sheet k))) (23, k + 1, 0) fine (λ z. omega arith) p.1 in
      (all_row sheet k (span card h k) (ok_shares (span card h k) (k + 1) 1 (row sheet k) p.0), ltb-false (card.cores * span card h k) (sum (row sheet k)) b.0)

  pub row_ok : (k : ℕ) → ((i : ℕ) → i < sheet.count → share sheet k i ≤ span card h k) → sum (row sheet k) ≤ card.cores * span card h k → Ok (judged_row card h sheet k)
  row_ok k narrow room = or_else_ok (judged_shares (span card h k) (k + 1) 1 (row sheet k)) _ (shares_ok (span card h k) (k + 1) 1 (row sheet k) (row_all sheet k (span card h k) narrow)) (unless_ok (ltb (card.cores * span card h k) (sum (row sheet k))) (23, k + 1, 0) fine (le-ltb (card.cores * span card h k) (sum (row sheet k)) room) refl)

  -- the jobs of a task whose windows lie in the frame
  job_within : (i j : ℕ) → i < card.count → closes card i j ≤ h → j < h / period_of card i
  job_within i j l w = (law.le-div_iff_mul-le (some i l)).1 (subst (λ x. x * period_of card i ≤ h) (add-one j) w)

  within_job : (i j : ℕ) → i < card.count → j < h / period_of card i → closes card i j ≤ h
  within_job i j l w = subst (λ x. x * period_of card i ≤ h) (sym (add-one j)) ((law.le-div_iff_mul-le (some i l)).0 w)

  pub ok_job : (i j : ℕ) → Ok (judged_job card h sheet i j) → in_window card h sheet i (opens card i j) (closes card i j) ≡ run_time_of card i
  ok_job i j e = eqb-true _ (run_time_of card i) (ok_when (eqb (in_window card h sheet i (opens card i j) (closes card i j)) (run_time_of card i)) fine (24, i + 1, j + 1) (λ z. omega arith) e).0

  pub job_ok : (i j : ℕ) → in_window card h sheet i (opens card i j) (closes card i j) ≡ run_time_of card i → Ok (judged_job card h sheet i j)
  job_ok i j e = when_ok (eqb (in_window card h sheet i (opens card i j) (closes card i j)) (run_time_of card i)) fine (24, i + 1, j + 1) (eq-eqb _ (run_time_of card i) e) refl

  pub ok_meets : Ok (judged_sheet card h sheet) → Meets card h sheet
  ok_meets e =
      let p = ok_when (eqb sheet.rows (length (boundaries card h)) && eqb sheet.count card.count) _ (21, 0, 0) (λ z. omega arith) e in
      let c = and_parts (eqb sheet.rows (length (boundaries card h))) (eqb sheet.count card.count) p.0 in
      let q = ok_or_else (each (judged_row card h sheet) (range_with_len 0 sheet.rows)) (each (judged_jobs card h sheet) (range_with_len 0 card.count)) p.1 in
      record {
        rows = eqb-true sheet.rows (length (boundaries card h)) c.0;
        count = eqb-true sheet.count card.count c.1;
        narrow = λ k i lk li. (ok_row k (ok_below (judged_row card h sheet) sheet.rows q.0 k lk)).0 i li;
        room = λ k lk. (ok_row k (ok_below (judged_row card h sheet) sheet.rows q.0 k lk)).1;
        whole = λ i j l w. ok_job i j (ok_below (judged_job card h sheet i) (h / period_of card i) (ok_below (judged_jobs card h sheet) card.count q.1 i l) j (job_within i j l w));
      }

  pub meets_ok : Meets card h sheet → Ok (judged_sheet card h sheet)
  meets_ok m = when_ok (eqb sheet.rows (length (boundaries card h)) && eqb sheet.count card.count) _ (21, 0, 0)
      (and_from (eqb sheet.rows (length (boundaries card h))) (eqb sheet.count card.count) (eq-eqb sheet.rows (length (boundaries card h)) m.rows) (eq-eqb sheet.count card.count m.count))
      (or_else_ok (each (judged_row card h sheet) (range_with_len 0 sheet.rows)) (each (judged_jobs card h sheet) (range_with_len 0 card.count))
      (below_ok (judged_row card h sheet) sheet.rows (λ k lk. row_ok k (λ i li. m.narrow k i lk li) (m.room k lk)))
      (below_ok (judged_jobs card h sheet) card.count (λ i l. below_ok (judged_job card h sheet i) (h / period_of card i) (λ j lj. job_ok i j (m.whole i j l (within_job i j l lj))))))

pub clean_sheet : (card : Card) (h : ℕ) (sheet : Sheet) → Clean (judged_sheet card h sheet)
clean_sheet card h sheet = clean_when (eqb sheet.rows (length (boundaries card h)) && eqb sheet.count card.count) _ (21, 0, 0) (λ z. omega arith) (clean_or_else (each (judged_row card h sheet) (range_with_len 0 sheet.rows)) _ (clean_each (judged_jobs card h sheet) (range_with_len 0 card.count)))
