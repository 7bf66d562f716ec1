-- How the slices handed out stand to the interval that is open and to the scheduler.
use Rattle.std.proofs.Common.{◌≡◌, ℕ, ◌+◌, ◌-◌, ◌*◌, ◌<◌, ◌≤◌, false, eqb, List, get_or, take, drop, count_by, ap, ◌∙◌, arith}
use native.Mathlib.Nat as law
use Rattle.std.specs.List.{AllByRecursion}
use Rattle.std.proofs.lemmas.List.{get_or_past, length-take}
use Rattle.std.proofs.lemmas.Bool.{ne_eqb, cond-false}
use Rattle.card.specs.declared.types.Card.{Card}
use Rattle.sheet.specs.declared.types.Sheet.{Sheet}
use Rattle.chart.specs.Charts.{got, Once}
use Rattle.card.specs.Cards.{begins}
use Rattle.sheet.specs.Sheets.{row, share}
use Rattle.sheet.proofs.SheetsJudged.{row_share}
use Rattle.local.specs.Meaning.{Local, Loaded, amount_of, share_of, positive, seat}
use Rattle.dispatch.specs.declared.Stamped.{Stamped}
use Rattle.dispatch.specs.Counts.{chart, ticks}
use Rattle.dispatch.proofs.Along.{Along, begun}
use Rattle.dispatch.proofs.Goods.{Good, total, total_more, edge}

-- a slice that begins at a tick of the run
pub record Fine (card : Card) (h : ℕ) (sheet : Sheet) (first tick : ℕ) (z : Stamped) : Type 0 where
  pub stamp : z.stamp ≡ first * h + tick
  pub some : 1 ≤ z.slice.length
  pub lies : (f : ℕ) × (k : ℕ) × (k < sheet.rows) × (f * h + begins card h k ≤ tick) × (tick + z.slice.length ≤ f * h + begins card h (k + 1))
  pub named : (task : ℕ) → card.count < task → count_by (eqb task) z.slice.seats ≡ 0
  pub few_cores : (c : ℕ) → 16 ≤ c → seat z.slice c ≡ 0

-- slices that were handed out, without the scheduler
pub record Sound (card : Card) (h : ℕ) (sheet : Sheet) (first : ℕ) (zs : List Stamped) : Type 0 where
  pub past : (i f k : ℕ) → i < card.count → k < sheet.rows → edge card h f (k + 1) ≤ ticks zs → got (i + 1) (take (edge card h f (k + 1)) (chart zs)) ≡ f * total sheet i sheet.rows + total sheet i (k + 1)
  pub few : (f k : ℕ) → k < sheet.rows → begun (edge card h f k) (edge card h f (k + 1)) zs ≤ positive (row sheet k) + 1
  pub later : (a b : ℕ) → ticks zs ≤ a → begun a b zs ≡ 0
  pub once : AllByRecursion Once (chart zs)
  pub along : Along (Fine card h sheet first) 0 zs

-- the next slice begins interval k of frame f of the run
pub record Open (card : Card) (h : ℕ) (sheet : Sheet) (f k : ℕ) (zs : List Stamped) : Type 0 where
  pub within : k < sheet.rows
  pub at : ticks zs ≡ edge card h f k
  pub shares : (i : ℕ) → i < card.count → got (i + 1) (chart zs) ≡ f * total sheet i sheet.rows + total sheet i k

-- interval k of frame f of the run is loaded in the scheduler's state s
pub record Mid {S : Type 0} (m : Local S) (card : Card) (h : ℕ) (sheet : Sheet) (f k : ℕ) (s : S) (zs : List Stamped) : Type 0 where
  pub within : k < sheet.rows
  pub begun_at : edge card h f k ≤ ticks zs
  pub at : ticks zs + m.left s ≡ edge card h f (k + 1)
  pub shares : (i : ℕ) → i < card.count → got (i + 1) (chart zs) + amount_of m s (i + 1) ≡ f * total sheet i sheet.rows + total sheet i (k + 1)
  pub spent : m.left s ≡ 0 → (task : ℕ) → amount_of m s task ≡ 0
  pub strangers : (task : ℕ) → card.count < task → amount_of m s task ≡ 0
  pub slices : begun (edge card h f k) (edge card h f (k + 1)) zs + m.allowance s ≤ positive (row sheet k) + 1
  pub few_cores : m.width s ≤ 16

-- the share of a task in a row
pub share_of_lem : (sheet : Sheet) (k i : ℕ) → i < sheet.count → share_of (row sheet k) (i + 1) ≡ share sheet k i
share_of_lem sheet k i l =
    let a : i + 1 - 1 ≡ i = omega arith in
    let b : eqb (i + 1) 0 ≡ false = ne_eqb (i + 1) 0 (λ e. omega (arith, e)) in
    cond-false (eqb (i + 1) 0) 0 (get_or (row sheet k) (i + 1 - 1) 0) b ∙ ap (λ (n : ℕ). get_or (row sheet k) n 0) a ∙ row_share sheet k i l

pub share_past : (sheet : Sheet) (k task : ℕ) → sheet.count < task → share_of (row sheet k) task ≡ 0
share_past sheet k task l =
    let b : eqb task 0 ≡ false = ne_eqb task 0 (λ e. omega (arith, e)) in
    let c = length-take sheet.count (drop (k * sheet.count) sheet.shares) in
    cond-false (eqb task 0) 0 (get_or (row sheet k) (task - 1) 0) b ∙ get_or_past (row sheet k) (task - 1) 0 (omega (arith, c))

module _ {S : Type 0} (m : Local S) (card : Card) (h : ℕ) (sheet : Sheet) (good : Good card h sheet) (first : ℕ) where
  pub load : (f k : ℕ) (zs : List Stamped) (s s' : S) → Open card h sheet f k zs → Sound card h sheet first zs → Loaded m s card.cores (begins card h (k + 1) - begins card h k) (row sheet k) s' → Mid m card h sheet f k s' zs
  load f k zs s s' o sound l =
      let up = good.rising k o.within in
      let at = o.at in
      let left = l.ticks in
      let none = sound.later (edge card h f k) (edge card h f (k + 1)) (omega (arith, at)) in
      let cores = l.cores in
      record {
        within = o.within;
        begun_at = omega (arith, at);
        at = omega (arith, at, left, up);
        shares = λ i lt. let a = o.shares i lt in let b = l.amounts (i + 1) in let c = share_of_lem sheet k i (omega (arith, good.count, lt)) in let d = total_more sheet i k in omega (arith, a, b, c, d);
        spent = λ e task. absurd (omega (arith, e, left, up));
        strangers = λ task lt. l.amounts task ∙ share_past sheet k task (omega (arith, good.count, lt));
        slices = let a = l.few_slices in omega (arith, none, a);
        few_cores = let a = l.fit.limits.1 in omega (arith, cores, a);
      }

  -- when the interval is handed out whole
  pub close : (f k : ℕ) (zs : List Stamped) (s : S) → Mid m card h sheet f k s zs → m.left s ≡ 0 → k + 1 < sheet.rows → Open card h sheet f (k + 1) zs
  close f k zs s mid e lt =
      let at = mid.at in
      record {
        within = lt;
        at = omega (arith, at, e);
        shares = λ i l. let a = mid.shares i l in let b = mid.spent e (i + 1) in omega (arith, a, b);
      }

  pub close_frame : (f k : ℕ) (zs : List Stamped) (s : S) → Mid m card h sheet f k s zs → m.left s ≡ 0 → sheet.rows ≤ k + 1 → Open card h sheet (f + 1) 0 zs
  close_frame f k zs s mid e ge =
      let at = mid.at in
      let within = mid.within in
      let same : k + 1 ≡ sheet.rows = omega (arith, within, ge) in
      let b₁ : begins card h (k + 1) ≡ h = ap (begins card h) same ∙ good.to_end in
      let b₀ = good.from_0 in
      let fh = law.add-mul f 1 h in
      let oh = law.one-mul h in
      record {
        within = omega (arith, within);
        at = omega (arith, at, e, b₁, b₀, fh, oh);
        shares = λ i l. let a = mid.shares i l in let b = mid.spent e (i + 1) in let c = ap (total sheet i) same in let d = law.add-mul f 1 (total sheet i sheet.rows) in let d₁ = law.one-mul (total sheet i sheet.rows) in omega (arith, a, b, c, d, d₁);
      }
