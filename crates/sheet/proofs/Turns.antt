-- A loop that judges number by number: what is left of the numbers gives the whole judgement.
use Rattle.std.proofs.Common.{◌≡◌, ℕ, ◌+◌, ◌<◌, ◌≤◌, drop, sym, ap, ◌∙◌, zero-add, arith}
use Rattle.std.specs.List.{range_with_len}
use Rattle.std.proofs.lemmas.List.FromFn.{length-range_with_len, get_or-range_with_len}
use Rattle.std.proofs.lemmas.List.{at_drop_more, at_drop_all}
use Rattle.std.proofs.lemmas.Bool.{cond-true, cond-false, eq-eqb, ne_eqb}
use Rattle.refusal.specs.declared.Refusal.{Refusal}
use Rattle.refusal.specs.declared.SheetFault.{SheetFault}
use Rattle.refusal.specs.Table.{sheet_told, numbered}
use Rattle.card.specs.Verdicts.{Judged, fine, or_else, each}
use Rattle.sheet.proofs.Answered.{sheet_bad}

-- the judgement of the numbers from i up to n is that of all below n
pub record Left (f : ℕ → Judged) (n i : ℕ) : Type 0 where
  pub same : each f (drop i (range_with_len 0 n)) ≡ each f (range_with_len 0 n)

module _ {f : ℕ → Judged} {n i : ℕ} (left : Left f n i) where
  next : i < n → each f (range_with_len 0 n) ≡ or_else (f i) (each f (drop (i + 1) (range_with_len 0 n)))
  next l = sym left.same ∙ at_drop_more (each f) (range_with_len 0 n) i 0 (omega (arith, length-range_with_len 0 n)) ∙ ap (λ (k : ℕ). or_else (f k) (each f (drop (i + 1) (range_with_len 0 n)))) (get_or-range_with_len 0 n i 0 l ∙ zero-add i)

  -- a turn that is fine
  pub left_more : i < n → f i ≡ fine → Left f n (i + 1)
  left_more l e = record { same = sym (next l ∙ cond-true _ _ _ (eq-eqb (f i).0 0 (ap (λ (j : Judged). j.0) e))) }

  -- a turn that is not tells the whole
  pub left_told : i < n → (e : SheetFault) → sheet_told e ≡ numbered (f i) → sheet_told e ≡ numbered (each f (range_with_len 0 n))
  left_told l e t = t ∙ ap numbered (sym (next l ∙ cond-false _ _ _ (ne_eqb (f i).0 0 (λ z. sheet_bad e (ap (λ (r : Refusal). r.number) t ∙ z)))))

  pub left_all : n ≤ i → each f (range_with_len 0 n) ≡ fine
  left_all l = sym left.same ∙ at_drop_all (each f) (range_with_len 0 n) i (omega (arith, length-range_with_len 0 n))

pub ruleset turns = (left_more, left_told, left_all)
