-- The next passage, by the amounts on the first core and of the last waiting task.
use Rattle.std.proofs.Common.{◌≡◌, ℕ, ◌-◌, ◌<◌, false, leb, length, sym, ap, ◌∙◌, subst, arith}
use Rattle.std.specs.Prelude.{Option, Some, None}
use Rattle.std.proofs.lemmas.List.{length-map}
use Rattle.std.proofs.lemmas.Bool.{cond-true, cond-false, cond_both, lt-ltb, le-ltb}
use Rattle.izl_rule.specs.Rule.{State, F, G, waits, runs, lowered, passed, passage}
use Rattle.izl_rule.specs.Invariant.{Held, merged}
use Rattle.izl_rule.proofs.Passing.{some_core}
use Rattle.izl_rule.proofs.Passages.{line_length, jobs_length}
use Rattle.izl.specs.declared.tables.Kind.{Kind}
use Rattle.izl.specs.declared.tables.Kind.TheVariants.{TakeOver, Refill, Leave, Rest}
use Rattle.izl.specs.View.{Amount, passage_by, turned, Can, Passes}

module _ (s : State) (h : Held (merged s)) where
  passes_as : (p : ℕ × Kind) → ◌≡◌ {A = ℕ × State} (passage s) (p.0, turned p.1 (passed p.0 s)) → Can p.1 s → Passes s p
  passes_as p e c = record { time = sym (ap (λ (q : ℕ × State). q.0) e); does = ap (λ (q : ℕ × State). q.1) e; able = c }

  -- while a task waits all cores are busy, the first of them in the core queue
  wait : 0 < length s.running → 0 < length s.waiting → Passes s (passage_by (Some (F s)) (Some (G s)) s.left)
  wait some w =
      let k : length (merged s).line < length (merged s).jobs = omega (arith, line_length s, jobs_length s) in
      let e = lt-ltb 0 (length s.waiting) w in
      cond_both (leb (s.left - G s) (F s)) (s.left - G s, TakeOver) (F s, Refill) (Passes s)
      (λ d. passes_as (s.left - G s, TakeOver) (cond-true (waits s) _ _ e ∙ cond-true (leb (s.left - G s) (F s)) _ _ d) (some, w, omega (arith, h.full k, h.narrow, line_length s)))
      (λ d. passes_as (F s, Refill) (cond-true (waits s) _ _ e ∙ cond-false (leb (s.left - G s) (F s)) _ _ d) (some, omega (arith, h.full k, h.narrow, line_length s)))

  none_waits : length s.waiting ≡ 0 → waits s ≡ false
  none_waits z = le-ltb 0 (length s.waiting) (omega arith)

  pub passes : (first last : Option ℕ) → Amount first s.running (F s) → Amount last s.waiting (G s) → Passes s (passage_by first last s.left)
  passes (Some f) (Some g) a b = subst (λ (n : ℕ). Passes s (passage_by (Some n) (Some g) s.left)) (sym a.1) (subst (λ (n : ℕ). Passes s (passage_by (Some (F s)) (Some n) s.left)) (sym b.1) (wait a.0 b.0))
  passes (Some f) None a b = subst (λ (n : ℕ). Passes s (passage_by (Some n) None s.left)) (sym a.1)
      (passes_as (F s, Leave) (cond-false (waits s) _ _ (none_waits b) ∙ cond-true (runs s) _ _ (lt-ltb 0 (length s.running) a.0)) a.0)
  passes None (Some g) a b = absurd (omega (arith, some_core (merged s) h (omega (arith, line_length s, jobs_length s)), line_length s))
  passes None None a b = passes_as (s.left, Rest) (cond-false (waits s) _ _ (none_waits b) ∙ cond-false (runs s) _ _ (le-ltb 0 (length s.running) (omega arith))) tt

-- what can happen can after some time
pub still : (s : State) (n : ℕ) (k : Kind) (s' : State) → Can k s → s' ≡ passed n s → Can k s'
still s n k s' c e = subst (Can k) (sym e) (go k c)
  where
    go : (k : Kind) → Can k s → Can k (passed n s)
    go TakeOver c = (omega (arith, c.0, length-map s.running (lowered n)), c.1, omega (arith, c.2, length-map s.taken (lowered n)))
    go Refill c = (omega (arith, c.0, length-map s.running (lowered n)), omega (arith, c.1, length-map s.running (lowered n)))
    go Leave c = omega (arith, c, length-map s.running (lowered n))
    go Rest c = tt
