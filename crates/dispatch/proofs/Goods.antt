-- What acceptance gives of a card and a sheet, and the order of the intervals of all frames.
use Rattle.std.proofs.Common.{◌≡◌, ℕ, suc, ◌+◌, ◌*◌, ◌<◌, ◌≤◌, true, false, ◌⊎◌, ap, add-one, arith}
use mathlib.Core.Logic.◌⊎◌.{inl, inr}
use native.Mathlib.Nat as law
use Rattle.std.proofs.lemmas.Bool.{cases_order}
use Rattle.card.specs.declared.types.Card.{Card}
use Rattle.sheet.specs.declared.types.Sheet.{Sheet}
use Rattle.chart.proofs.Rising as rising
use Rattle.chart.specs.Sums.{upto}
use Rattle.chart.proofs.Ranges.{upto_rises}
use Rattle.sheet.proofs.Spans.{next}
use Rattle.card.specs.Cards.{Frame, begins, period_of, run_time_of, released, tasks_of}
use Rattle.sheet.specs.Sheets.{share}

-- the shares of task i, from 0, in the first n intervals
abbrev pub total : Sheet → ℕ → ℕ → ℕ
total sheet i n = upto (λ k. share sheet k i) n

pub record Good (card : Card) (h : ℕ) (sheet : Sheet) : Type 0 where
  pub frame : Frame card h
  pub short : h ≤ 1000000
  pub count : sheet.count ≡ card.count
  pub periods : (i : ℕ) → i < card.count → 1 ≤ period_of card i
  pub from_0 : begins card h 0 ≡ 0
  pub to_end : begins card h sheet.rows ≡ h
  pub rising : (k : ℕ) → k < sheet.rows → begins card h k < begins card h (k + 1)
  -- the intervals begin where some task is released, and only there
  pub releases : (k : ℕ) → k < sheet.rows → released (tasks_of card) (begins card h k) ≡ true
  pub quiet : (k t : ℕ) → k < sheet.rows → begins card h k < t → t < begins card h (k + 1) → released (tasks_of card) t ≡ false
  -- each multiple of a period up to the frame's end is the begin of an interval, or that end
  pub marked : (i j : ℕ) → i < card.count → j * period_of card i ≤ h → (a : ℕ) × (a ≤ sheet.rows) × (begins card h a ≡ j * period_of card i)
  -- the shares in the window of job j are its run time
  pub whole : (i j a b : ℕ) → i < card.count → a ≤ sheet.rows → b ≤ sheet.rows → begins card h a ≡ j * period_of card i → begins card h b ≡ (j + 1) * period_of card i → total sheet i b ≡ total sheet i a + run_time_of card i

pub total_more : (sheet : Sheet) (i k : ℕ) → total sheet i (k + 1) ≡ total sheet i k + share sheet k i
total_more sheet i k = ap (total sheet i) (add-one k)

pub total_le : (sheet : Sheet) (i a b : ℕ) → a ≤ b → total sheet i a ≤ total sheet i b
total_le sheet i a b l = upto_rises (λ k. share sheet k i) a b l

-- the tick of the run at which interval k of its frame f begins
abbrev pub edge : Card → ℕ → ℕ → ℕ → ℕ
edge card h f k = f * h + begins card h k

module _ (card : Card) (h : ℕ) (sheet : Sheet) (good : Good card h sheet) where
  rise : (k : ℕ) → k < sheet.rows → begins card h k < begins card h (suc k)
  rise k l = omega (arith, good.rising k l, next card h k)

  pub below : (a b : ℕ) → a ≤ b → b ≤ sheet.rows → begins card h a ≤ begins card h b
  below = rising.below (begins card h) sheet.rows rise

  pub in_order : (a b : ℕ) → a ≤ sheet.rows → begins card h a ≤ begins card h b → a ≤ b
  in_order = rising.in_order (begins card h) sheet.rows rise

  pub to_h : (k : ℕ) → k ≤ sheet.rows → begins card h k ≤ h
  to_h k l = let x = below k sheet.rows l (omega arith) in let y = good.to_end in omega (arith, x, y)

  pub frames : (f g : ℕ) → f < g → f * h + h ≤ g * h
  frames f g l = let m : suc f * h ≤ g * h = law.mul-le-mul_right h l in let e = law.suc-mul f h in omega (arith, m, e)

  -- two intervals are the same, or one lies behind the other
  abbrev pub Apart : ℕ → ℕ → ℕ → ℕ → Type 0
  Apart f k g l = ((f ≡ g) × (k ≡ l)) ⊎ ((edge card h f (k + 1) ≤ edge card h g l) ⊎ (edge card h g (l + 1) ≤ edge card h f k))

  pub apart : (f k g l : ℕ) → k < sheet.rows → l < sheet.rows → Apart f k g l
  apart f k g l kin lin = frame_cases (cases_order f g)
    where
      inner : f ≡ g → (k ≡ l) ⊎ ((k < l) ⊎ (l < k)) → Apart f k g l
      inner e (inl s) = inl (e, s)
      inner e (inr (inl s)) = let x = below (k + 1) l (omega arith) (omega arith) in let y = ap (λ (n : ℕ). n * h) e in inr (inl (omega (arith, x, y)))
      inner e (inr (inr s)) = let x = below (l + 1) k (omega arith) (omega arith) in let y = ap (λ (n : ℕ). n * h) e in inr (inr (omega (arith, x, y)))

      frame_cases : (f ≡ g) ⊎ ((f < g) ⊎ (g < f)) → Apart f k g l
      frame_cases (inl e) = inner e (cases_order k l)
      frame_cases (inr (inl s)) = let x = frames f g s in let y = to_h (k + 1) (omega arith) in inr (inl (omega (arith, x, y)))
      frame_cases (inr (inr s)) = let x = frames g f s in let y = to_h (l + 1) (omega arith) in inr (inr (omega (arith, x, y)))
