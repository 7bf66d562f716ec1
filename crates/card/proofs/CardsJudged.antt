-- A card is judged fine exactly when it is lawful.
use Rattle.std.proofs.Common.{◌≡◌, ℕ, ◌+◌, ◌<◌, ◌≤◌, false, eqb, ltb, List, [], ◌∷◌, length, get_or, refl, subst, arith}
use Rattle.std.specs.List.{AllByRecursion}
use Rattle.std.proofs.lemmas.List.{length-take-le}
use Rattle.std.proofs.ByRecursion.{All-get_or, All-weaker}
use Rattle.std.proofs.lemmas.Bool.{ltb-false, le-ltb, or_parts, or_from, eqb-true, eq-eqb}
use Rattle.card.specs.declared.types.Card.{Card}
use Rattle.card.specs.declared.types.Task.{Task}
use Rattle.card.specs.Cards.{Frame, tasks_of, nobody, boundaries}
use Rattle.card.specs.Lawful.{Lawful, Exactly}
use Rattle.card.specs.Verdicts.{fine, outside, lcm, lcm_with, frame_of, judged_task, judged_tasks, judged_card}
use Rattle.card.proofs.Divisors.{lcm_some}
use Rattle.card.proofs.Frames.{lcm_with_rises, all_tasks, frame_of_lem, frame_one}
use Rattle.card.proofs.Judges.{Ok, ok_or_else, or_else_ok, ok_unless, unless_ok}

abbrev pub Sound : Task → Type 0
Sound t = (1 ≤ t.period) × (t.period ≤ 1000000) × (1 ≤ t.run_time) × (t.run_time ≤ t.period)

pub inside_range : (low high x : ℕ) → outside low high x ≡ false → (low ≤ x) × (x ≤ high)
inside_range low high x e = let p = or_parts (ltb x low) (ltb high x) e in (ltb-false x low p.0, ltb-false high x p.1)

pub range_inside : (low high x : ℕ) → low ≤ x → x ≤ high → outside low high x ≡ false
range_inside low high x l m = or_from (ltb x low) (ltb high x) (le-ltb x low l) (le-ltb high x m)

pub ok_task : (h i : ℕ) (t : Task) → Ok (judged_task h i t) → Sound t × (lcm h t.period ≤ 1000000)
ok_task h i t e =
    let a = ok_unless (outside 1 1000000 t.period) (11, i, 0) _ (λ z. omega arith) e in
    let b = ok_unless (outside 1 t.period t.run_time) (12, i, 0) _ (λ z. omega arith) a.1 in
    let c = ok_unless (ltb 1000000 (lcm h t.period)) (13, i, 0) fine (λ z. omega arith) b.1 in
    let p = inside_range 1 1000000 t.period a.0 in let r = inside_range 1 t.period t.run_time b.0 in
    ((p.0, p.1, r.0, r.1), ltb-false 1000000 (lcm h t.period) c.0)

pub task_ok : (h i : ℕ) (t : Task) → Sound t → lcm h t.period ≤ 1000000 → Ok (judged_task h i t)
task_ok h i t s l =
    unless_ok (outside 1 1000000 t.period) (11, i, 0) _ (range_inside 1 1000000 t.period s.0 s.1)
    (unless_ok (outside 1 t.period t.run_time) (12, i, 0) _ (range_inside 1 t.period t.run_time s.2 s.3)
    (unless_ok (ltb 1000000 (lcm h t.period)) (13, i, 0) fine (le-ltb 1000000 (lcm h t.period) l) refl))

pub ok_tasks : (ts : List Task) (h i : ℕ) → h ≤ 1000000 → Ok (judged_tasks h i ts) → AllByRecursion Sound ts × (lcm_with h ts ≤ 1000000)
ok_tasks [] h i l e = (tt, l)
ok_tasks (t ∷ ts) h i l e =
    let p = ok_or_else (judged_task h i t) (judged_tasks (lcm h t.period) (i + 1) ts) e in
    let a = ok_task h i t p.0 in
    let b = ok_tasks ts (lcm h t.period) (i + 1) a.1 p.1 in
    ((a.0, b.0), b.1)

pub tasks_ok : (ts : List Task) (h i : ℕ) → 1 ≤ h → AllByRecursion Sound ts → lcm_with h ts ≤ 1000000 → Ok (judged_tasks h i ts)
tasks_ok [] h i some all l = refl
tasks_ok (t ∷ ts) h i some all l =
    let s = lcm_some h t.period all.0.0 some in
    let r = lcm_with_rises ts (lcm h t.period) s (All-weaker Sound (λ t. 1 ≤ t.period) (λ t s. s.0) ts all.1) in
    or_else_ok (judged_task h i t) (judged_tasks (lcm h t.period) (i + 1) ts) (task_ok h i t all.0 (omega (arith, r, l))) (tasks_ok ts (lcm h t.period) (i + 1) s all.1 l)

pub ok_lawful : (card : Card) → Ok (judged_card card) → Lawful card
ok_lawful card e =
    let h : ℕ = frame_of (tasks_of card) in
    let p = ok_or_else (judged_tasks 1 1 (tasks_of card)) _ e in
    let a = ok_tasks (tasks_of card) 1 1 (omega arith) p.0 in
    let b = ok_unless (ltb 128 (length (boundaries card h))) (14, 0, 0) fine (λ z. omega arith) p.1 in
    let sound : (i : ℕ) → i < card.count → Sound (get_or (tasks_of card) i nobody) = λ i l. All-get_or Sound (tasks_of card) i nobody (omega (arith, length-take-le card.count card.tasks (omega (arith, card.table, card.few_tasks)), l)) a.0 in
    record {
      periods = λ i l. ((sound i l).0, (sound i l).1);
      runs = λ i l. ((sound i l).2, (sound i l).3);
      frame = h;
      is_frame = frame_of_lem card (λ i l. (sound i l).0);
      short = a.1;
      few = ltb-false 128 (length (boundaries card h)) b.0;
    }

pub lawful_frame : (card : Card) → Lawful card → Frame card (frame_of (tasks_of card))
lawful_frame card law' = frame_of_lem card (λ i l. (law'.periods i l).0)

pub lawful_ok : (card : Card) → Lawful card → Ok (judged_card card)
lawful_ok card law' =
    let h : ℕ = frame_of (tasks_of card) in
    let e : law'.frame ≡ h = frame_one card law'.frame h law'.is_frame (lawful_frame card law') in
    let short : h ≤ 1000000 = omega (arith, e, law'.short) in
    let few : length (boundaries card h) ≤ 128 = subst (λ x. length (boundaries card x) ≤ 128) e law'.few in
    let sound = all_tasks card Sound (λ i l. ((law'.periods i l).0, (law'.periods i l).1, (law'.runs i l).0, (law'.runs i l).1)) in
    or_else_ok (judged_tasks 1 1 (tasks_of card)) _ (tasks_ok (tasks_of card) 1 1 (omega arith) sound short) (unless_ok (ltb 128 (length (boundaries card h))) (14, 0, 0) fine (le-ltb 128 (length (boundaries card h)) few) refl)

pub lawful_exactly : (card : Card) → Exactly (Lawful card) (eqb (judged_card card).0 0)
lawful_exactly card = record { to = λ e. ok_lawful card (eqb-true (judged_card card).0 0 e); from = λ l. eq-eqb (judged_card card).0 0 (lawful_ok card l) }
