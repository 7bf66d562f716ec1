-- The steps of the rule are the steps on one list.
use Rattle.std.proofs.Common.{◌≡◌, ℕ, suc, ◌+◌, ◌-◌, ◌<◌, Bool, true, false, cond, eqb, List, [], ◌∷◌, ◌++◌, map, length, get_or, take, drop, sym, refl, ap, ◌∙◌, append_assoc, arith}
use mathlib.Core.List.{map-append}
use Rattle.std.specs.List.{remove}
use Rattle.std.proofs.lemmas.List.{length-map, length-append, length_push, length-take-le, take-map, take_all, take_more, get_or-map, get_or_at, get_or-append_right, take_at, drop_at}
use Rattle.std.proofs.lemmas.List.Sums.{sum_by-append}
use Rattle.std.proofs.lemmas.Bool.{cond-true, lt-ltb}
use Rattle.izl_rule.specs.declared.Running.{Running}
use Rattle.izl_rule.specs.declared.Waiting.{Waiting}
use Rattle.izl_rule.specs.Rule.{State, nobody, nothing, front, on, first_waiting, last_core, last_waiting, put_back, takes, waits}
use Rattle.izl_rule.specs.Rule as rule
use Rattle.izl_rule.specs.Invariant.{Merged, merged, job}
use Rattle.izl_rule.proofs.Steps.{Job, lowered, passed, unended, take_over, refill, leaves, amount}
use Rattle.izl_rule.proofs.Lists.{sum_by_map}

abbrev pub core : Running → ℕ
core r = r.core

-- states with equal parts
pub same : (w l : ℕ) {js js' : List Job} {cs cs' : List ℕ} {ts ts' : List Running} → js ≡ js' → cs ≡ cs' → ts ≡ ts'
    → ◌≡◌ {A = Merged} (record { width = w; left = l; jobs = js; line = cs; taken = ts }) (record { width = w; left = l; jobs = js'; line = cs'; taken = ts' })
same w l a b c = λ i. record { width = w; left = l; jobs = a i; line = b i; taken = c i }

-- time passes
module _ (t : ℕ) (ws : List Waiting) where
  jobs_lowered : (rs : List Running) → map job (map (rule.lowered t) rs) ++ ws ≡ lowered (length (map core rs)) t (map job rs ++ ws)
  jobs_lowered [] = refl
  jobs_lowered (r ∷ rs) = ap (λ (js : List Job). record { amount = r.amount - t; task = r.task } ∷ js) (jobs_lowered rs)

  cores_lowered : (rs : List Running) → map core (map (rule.lowered t) rs) ≡ map core rs
  cores_lowered [] = refl
  cores_lowered (r ∷ rs) = ap (λ (cs : List ℕ). r.core ∷ cs) (cores_lowered rs)

pub merged_passed : (t : ℕ) (s : State) → merged (rule.passed t s) ≡ passed t (merged s)
merged_passed t s = same s.width (s.left - t) (jobs_lowered t s.waiting s.running) (cores_lowered t s.waiting s.running) refl

-- a core takes a task while one waits
pub taking : (c : ℕ) (s : State) → 0 < length s.waiting → takes c s ≡ record { width = s.width; left = s.left; running = s.running ++ (on c (first_waiting s) ∷ []); waiting = drop 1 s.waiting; taken = s.taken }
taking c s wait = cond-true (waits s) _ _ (lt-ltb 0 (length s.waiting) wait)

-- the first core leaves the line, or takes the first waiting task at its end
module _ (w l : ℕ) (ts : List Running) where
  abbrev state : List Running → List Waiting → State
  state rs ws = record { width = w; left = l; running = rs; waiting = ws; taken = ts }

  leave : (rs : List Running) (ws : List Waiting) → 0 < length rs → merged (rule.leaves (state rs ws)) ≡ leaves (merged (state rs ws))
  leave [] ws some = absurd (omega arith)
  leave (r ∷ rs) ws some = refl

  fill : (rs : List Running) (ws : List Waiting) → 0 < length rs → 0 < length ws → merged (rule.refill (state rs ws)) ≡ refill (merged (state rs ws))
  fill [] ws some wait = absurd (omega arith)
  fill (r ∷ rs) [] some wait = absurd (omega arith)
  fill (r ∷ rs) (x ∷ ws) some wait = ap merged (taking r.core (state rs (x ∷ ws)) wait) ∙ same w l
      (ap (λ (js : List Job). js ++ ws) (map-append job rs (on r.core x ∷ [])) ∙ append_assoc (map job rs) (x ∷ []) ws)
      (map-append core rs (on r.core x ∷ [])) refl

pub merged_leaves : (s : State) → 0 < length s.running → merged (rule.leaves s) ≡ leaves (merged s)
merged_leaves s some = leave s.width s.left s.taken s.running s.waiting some

pub merged_refill : (s : State) → 0 < length s.running → 0 < length s.waiting → merged (rule.refill s) ≡ refill (merged s)
merged_refill s some wait = fill s.width s.left s.taken s.running s.waiting some wait

-- a list is its front and its last
pub split_last : {X : Type 0} (xs : List X) (d : X) → 0 < length xs → front xs ++ (get_or xs (length xs - 1) d ∷ []) ≡ xs
split_last xs d some = sym (take_more xs (length xs - 1) d (omega arith)) ∙ take_all (length xs - 1 + 1) xs (omega arith)

-- the job at place k is put back, unless it has ended
module _ (ks : List Job) (r : Running) (ws : List Waiting) (k : ℕ) (size : length ks ≡ k) where
  gone : remove (ks ++ (job r ∷ ws)) k ≡ ks ++ ws
  gone =
      let e : length (ks ++ (job r ∷ [])) ≡ suc k = omega (arith, length_push ks (job r), size) in
      let d : drop (suc k) (ks ++ (job r ∷ ws)) ≡ ws = ap (drop (suc k)) (sym (append_assoc ks (job r ∷ []) ws)) ∙ drop_at (ks ++ (job r ∷ [])) ws (suc k) e in
      λ i. take_at ks (job r ∷ ws) k size i ++ d i

  either : (b : Bool) → ks ++ cond b ws (job r ∷ ws) ≡ cond b (remove (ks ++ (job r ∷ ws)) k) (ks ++ (job r ∷ ws))
  either true = sym gone
  either false = refl

  put_back_lem : ks ++ put_back r ws ≡ unended k (ks ++ (job r ∷ ws))
  put_back_lem = either (eqb r.amount 0) ∙ ap (λ (j : Job). cond (eqb j.amount 0) (remove (ks ++ (job r ∷ ws)) k) (ks ++ (job r ∷ ws))) (sym (get_or_at ks (job r) ws nothing k size))

module _ (s : State) (some : 0 < length s.running) (wait : 0 < length s.waiting) where
  abbrev js : List Job
  js = map job s.running

  n : length (map job s.running) ≡ length s.running
  n = length-map s.running job

  c : length (map core s.running) ≡ length s.running
  c = length-map s.running core

  m : length (map job s.running ++ s.waiting) ≡ length s.running + length s.waiting
  m = length-append js s.waiting ∙ ap (λ k. k + length s.waiting) n

  -- the last job waits
  pub last_job : get_or (js ++ s.waiting) (length (js ++ s.waiting) - 1) nothing ≡ last_waiting s
  last_job =
      get_or-append_right js s.waiting (length s.running) (length (js ++ s.waiting) - 1) nothing n (omega (arith, m))
      ∙ ap (λ (k : ℕ). get_or s.waiting k nothing) (omega (arith, m))

  others : take (length (js ++ s.waiting) - 1) (js ++ s.waiting) ≡ js ++ front s.waiting
  others =
      let w = split_last s.waiting nothing wait in
      ap (λ (k : ℕ). take k (js ++ s.waiting)) (omega (arith, length-append js (front s.waiting), length-take-le (length s.waiting - 1) s.waiting (omega arith), n, m))
      ∙ ap (λ (ws : List Waiting). take (length (js ++ front s.waiting)) (js ++ ws)) (sym w)
      ∙ ap (take (length (js ++ front s.waiting))) (sym (append_assoc js (front s.waiting) (last_waiting s ∷ [])))
      ∙ take_at (js ++ front s.waiting) (last_waiting s ∷ []) (length (js ++ front s.waiting)) refl

  -- the jobs with the last core's apart
  apart : js ++ front s.waiting ≡ map job (front s.running) ++ (job (last_core s) ∷ front s.waiting)
  apart =
      ap (λ (rs : List Running). map job rs ++ front s.waiting) (sym (split_last s.running nobody some))
      ∙ ap (λ (ks : List Job). ks ++ front s.waiting) (map-append job (front s.running) (last_core s ∷ []))
      ∙ append_assoc (map job (front s.running)) (job (last_core s) ∷ []) (front s.waiting)

  size : length (map job (front s.running)) ≡ length (map core s.running) - 1
  size = length-map (front s.running) job ∙ length-take-le (length s.running - 1) s.running (omega arith) ∙ ap (λ k. k - 1) (sym c)

  pub merged_take_over : merged (rule.take_over s) ≡ take_over (merged s)
  merged_take_over = same s.width s.left
      (put_back_lem (map job (front s.running)) (last_core s) (front s.waiting) (length (map core s.running) - 1) size ∙ sym (ap (unended (length (map core s.running) - 1)) (others ∙ apart)))
      (sym (take-map core (length s.running - 1) s.running) ∙ ap (λ (k : ℕ). take (k - 1) (map core s.running)) (sym c))
      (λ i. s.taken ++ (on ((sym (get_or-map core s.running (length s.running - 1) nobody 0 (omega arith)) ∙ ap (λ (k : ℕ). get_or (map core s.running) (k - 1) 0) (sym c)) i) (sym last_job i) ∷ []))

-- what is left of a task
pub merged_amount : (s : State) (task : ℕ) → amount (merged s) task ≡ rule.amount s task
merged_amount s task =
    omega (arith, sum_by-append (λ (w : Waiting). cond (eqb task w.task) w.amount 0) (map job s.running) s.waiting, sum_by_map (λ (w : Waiting). cond (eqb task w.task) w.amount 0) job s.running)
