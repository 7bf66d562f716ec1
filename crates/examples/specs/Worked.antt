-- The worked examples.
use Rattle.std.specs.Prelude.{◌≡◌, ℕ, List, [], ◌∷◌, length, refl}
use Rattle.std.proofs.Common.{lit≤}
use Prim.{tt}
use Rattle.refusal.specs.declared.Layer.TheVariants as layer
use Rattle.refusal.specs.Table.{numbered, refusal}
use Rattle.card.specs.declared.types.Card.{Card}
use Rattle.card.specs.Cards.{boundaries, tasks_of}
use Rattle.card.specs.Verdicts.{fine, frame_of, judged_card}
use Rattle.sheet.specs.declared.types.Sheet.{Sheet}
use Rattle.sheet.specs.Verdicts.{judged}
use Rattle.local.specs.Meaning.{Fit}
use Rattle.wrap.specs.Wrap as wrap
use Rattle.izl_rule.specs.Rule as izl
use Rattle.dispatch.specs.Counts.{frame_start}
use Rattle.examples.specs.Samples.{task, card_of, sheet_of, slices}

-- two tasks with these periods, one tick each, on one core
abbrev pub pair : ℕ → ℕ → Card
pair p q = card_of 1 (task p 1 ∷ task q 1 ∷ []) (lit≤ tt) (lit≤ tt) (lit≤ tt) (lit≤ tt)

abbrev pub single : ℕ → Card
single p = card_of 1 (task p 1 ∷ []) (lit≤ tt) (lit≤ tt) (lit≤ tt) (lit≤ tt)

-- the plan of three tasks on two cores
abbrev pub plan : Card
plan = card_of 2 (task 6 4 ∷ task 9 6 ∷ task 18 12 ∷ []) (lit≤ tt) (lit≤ tt) (lit≤ tt) (lit≤ tt)

-- its sheet with this first row
abbrev pub with_first : ℕ → ℕ → ℕ → Sheet
with_first a b c = sheet_of 4 3 (a ∷ b ∷ c ∷ 2 ∷ 2 ∷ 2 ∷ 2 ∷ 2 ∷ 2 ∷ 4 ∷ 4 ∷ 4 ∷ []) (lit≤ tt) (lit≤ tt) (lit≤ tt) (lit≤ tt) refl (lit≤ tt)

-- the slices of a load, at most n, under each scheduler
abbrev pub wrapped : (width len n : ℕ) → List ℕ → List (ℕ × List ℕ)
wrapped width len n shares = slices (λ v. v.left) wrap.choice wrap.after width n (wrap.loaded width len shares)

abbrev pub by_izl : (width len n : ℕ) → List ℕ → List (ℕ × List ℕ)
by_izl width len n shares = slices (λ s. s.left) izl.choice izl.after width n (izl.load width len shares)

abbrev pub frame : Card → ℕ
frame card = frame_of (tasks_of card)

pub record Worked : Type 0 where
  pub frame_18 : frame plan ≡ 18
  pub four_intervals : boundaries plan 18 ≡ 0 ∷ 6 ∷ 9 ∷ 12 ∷ []
  pub frame_4 : frame (pair 4 4) ≡ 4
  pub one_interval : boundaries (pair 4 4) 4 ≡ 0 ∷ []
  pub many_intervals : length (boundaries (pair 1 128) 128) ≡ 128
  pub just_lawful : judged_card (pair 1 128) ≡ fine
  pub too_many : numbered (judged_card (pair 1 129)) ≡ refusal layer.Card 14 0 0
  pub too_long : numbered (judged_card (pair 1000 1001)) ≡ refusal layer.Card 13 2 0
  pub accepted : judged plan (with_first 4 4 4) ≡ fine
  pub overfull : numbered (judged plan (with_first 4 4 5)) ≡ refusal layer.Sheet 23 1 0
  pub wrong_total : numbered (judged plan (with_first 4 5 3)) ≡ refusal layer.Sheet 24 2 1
  pub izl_three : by_izl 2 6 3 (1 ∷ 2 ∷ 5 ∷ []) ≡ (1, 1 ∷ 2 ∷ []) ∷ (1, 2 ∷ 3 ∷ []) ∷ (4, 0 ∷ 3 ∷ []) ∷ []
  pub wrap_three : wrapped 2 6 4 (1 ∷ 2 ∷ 5 ∷ []) ≡ (1, 1 ∷ 3 ∷ []) ∷ (1, 2 ∷ 3 ∷ []) ∷ (1, 2 ∷ 0 ∷ []) ∷ (3, 3 ∷ 0 ∷ []) ∷ []
  pub full : Fit 2 6 (6 ∷ 6 ∷ [])
  pub izl_none : by_izl 2 6 2 [] ≡ (6, 0 ∷ 0 ∷ []) ∷ []
  pub wrap_none : wrapped 2 6 2 [] ≡ (6, 0 ∷ 0 ∷ []) ∷ []
  pub late_frame : frame_start (frame (single 1000)) 4294967 ≡ 4294967000
  pub next_frame : frame_start (frame (single 1000)) 4294968 ≡ 4294968000
