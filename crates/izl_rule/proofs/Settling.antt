-- Passages of no time, until one takes time.
use Rattle.std.proofs.Common.{◌≡◌, ℕ, zero, suc, ◌<◌, ◌≤◌, eqb, ◌⊎◌, refl, ◌∙◌, subst, inl, inr, arith}
use Rattle.std.proofs.lemmas.Bool.{cond_both, eqb-true, eqb-false, cases_lt}
use Rattle.izl_rule.specs.Rule.{State, passage, ready}
use Rattle.izl_rule.specs.Rule as rule
use Rattle.izl_rule.specs.Invariant.{Held, merged}
use Rattle.izl_rule.proofs.Passages.{size, Passage, a_passage}

pub record Readied (n : ℕ) (s s' : State) : Type 0 where
  pub width : s'.width ≡ s.width
  pub left : s'.left ≡ s.left
  pub amounts : (task : ℕ) → rule.amount s' task ≡ rule.amount s task
  pub held : Held (merged s')
  pub no_more : size s' ≤ size s
  pub prompt : size s ≤ n → 0 < s'.left → 0 < (passage s').0

stays : (n : ℕ) (s : State) → Held (merged s) → (size s ≤ n → 0 < s.left → 0 < (passage s).0) → Readied n s s
stays n s h p = record { width = refl; left = refl; amounts = λ task. refl; held = h; no_more = omega arith; prompt = p }

goes_on : (n : ℕ) (s s₁ s₂ : State) → Passage s 0 s₁ → Readied n s₁ s₂ → Readied (suc n) s s₂
goes_on n s s₁ s₂ p r = record {
  width = r.width ∙ p.width;
  left = omega (arith, r.left, p.left);
  amounts = λ task. omega (arith, r.amounts task, p.amounts task);
  held = r.held;
  no_more = no_more (cases_lt 0 (size s));
  prompt = λ l. r.prompt (enough l (cases_lt 0 (size s)));
}
  where
    no_more : (0 < size s) ⊎ (size s ≤ 0) → size s₂ ≤ size s
    no_more (inl l) = omega (arith, r.no_more, p.fewer l)
    no_more (inr l) = omega (arith, r.no_more, (p.none (omega arith)).0)

    enough : size s ≤ suc n → (0 < size s) ⊎ (size s ≤ 0) → size s₁ ≤ n
    enough k (inl l) = omega (arith, p.fewer l)
    enough k (inr l) = omega (arith, (p.none (omega arith)).0)

pub readied : (n : ℕ) (s : State) → Held (merged s) → Readied n s (ready n s)
readied zero s h = stays zero s h (λ l some. omega (arith, ((a_passage s h).none (omega arith)).1))
readied (suc n) s h = cond_both (eqb (passage s).0 0) (ready n (passage s).1) s (Readied (suc n) s)
    (λ e. let p : Passage s 0 (passage s).1 = no_time (eqb-true (passage s).0 0 e) in goes_on n s (passage s).1 _ p (readied n (passage s).1 p.held))
    (λ e. stays (suc n) s h (λ _ _. omega (arith, eqb-false (passage s).0 0 e)))
  where
    no_time : (passage s).0 ≡ 0 → Passage s 0 (passage s).1
    no_time e = subst (λ (t : ℕ). Passage s t (passage s).1) e (a_passage s h)
