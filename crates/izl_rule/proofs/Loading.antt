-- A load that fits begins a sound state.
use Rattle.std.proofs.Common.{◌≡◌, ℕ, ◌-◌, ◌*◌, ◌<◌, ◌≤◌, min, true, eqb, ◌⊎◌, List, [], length, get_or, sym, refl, ap, ◌∙◌, subst, inl, inr, arith}
use Rattle.std.specs.List.{AllByRecursion}
use Rattle.std.proofs.ByRecursion.{All-get_or, All-weaker}
use Rattle.std.proofs.lemmas.Bool.{cond-false, ne_eqb, cases_eq}
use Rattle.local.specs.Meaning.{Fit, Loaded, amount_of, share_of}
use Rattle.izl_rule.specs.Rule.{State, nothing, ordered, filled, load}
use Rattle.izl_rule.specs.Invariant.{Merged, Held, Sound, merged}
use Rattle.izl_rule.specs.Meant.{meaning, new}
use Rattle.izl_rule.proofs.Lists.{held}
use Rattle.izl_rule.proofs.Steps.{Job, amount}
use Rattle.izl_rule.proofs.Merging.{merged_amount}
use Rattle.izl_rule.proofs.Passages.{size, jobs_length}
use Rattle.izl_rule.proofs.Settling.{Readied, readied}
use Rattle.izl_rule.proofs.Ordering.{ordered_rises, ordered_all, ordered_length, ordered_sum, ordered_once, ordered_behind, ordered_before, ordered_due}
use Rattle.izl_rule.proofs.Handing.{amount_of_lem, allowance_some, allowance_le}
use Rattle.izl_rule.proofs.Filling.{cores, length_cores, all_cores, cores_once, merged_filled}

module _ (width len : ℕ) (shares : List ℕ) where
  abbrev js : List Job
  js = ordered 1 [] shares

  -- the shares in the waiting queue, and then the cores with their tasks
  abbrev pub start : State
  start = record { width = width; left = len; running = []; waiting = js; taken = [] }

  abbrev begun : Merged
  begun = record { width = width; left = len; jobs = js; line = cores 0 (min width (length js)); taken = [] }

  begins : merged (filled 0 width start) ≡ begun
  begins = merged_filled 0 width start

  module _ (f : Fit width len shares) where
    js_all : AllByRecursion (λ j. (0 < j.amount) × (j.amount ≤ len)) js
    js_all = ordered_all len 1 [] shares f.narrow tt

    begun_held : Held begun
    begun_held = record {
      narrow = omega (arith, f.limits.1);
      apart = λ c. omega (arith, cores_once c 0 (min width (length js)));
      inside = all_cores width 0 (min width (length js)) (omega arith);
      inside_taken = tt;
      tasks = λ task. omega (arith, ordered_once task 1 [] shares (omega arith) (λ _. refl));
      known = λ task l. omega (arith, ordered_behind task 1 [] shares (omega (arith, f.limits.4)) refl);
      numbered = omega (arith, ordered_before 0 1 [] shares (omega arith) refl);
      rises = ordered_rises 1 shares;
      bounded = All-weaker (λ (j : Job). (0 < j.amount) × (j.amount ≤ len)) (λ (j : Job). j.amount ≤ len) (λ j h. h.1) js js_all;
      urgent = tt;
      staffed = omega (arith, length_cores 0 (min width (length js)));
      unended = λ w. (All-get_or (λ (j : Job). (0 < j.amount) × (j.amount ≤ len)) js (length (cores 0 (min width (length js)))) nothing w js_all).0;
      room = λ w. room (omega (arith, length_cores 0 (min width (length js))));
      full = λ w. omega (arith, length_cores 0 (min width (length js)));
    }
      where
        room : length (cores 0 (min width (length js))) ≡ width → held (λ _. true) js ≤ length (cores 0 (min width (length js))) * len
        room e = rw e (omega (arith, ordered_sum 1 [] shares, f.room))

    pub filled_held : Held (merged (filled 0 width start))
    filled_held = subst Held (sym begins) begun_held

    r : Readied (size (filled 0 width start)) (filled 0 width start) (load width len shares)
    r = readied (size (filled 0 width start)) (filled 0 width start) filled_held

    pub load_sound : Sound (load width len shares)
    load_sound = record { held = r.held; prompt = r.prompt (omega arith) }

    load_amount : (task : ℕ) → (task ≡ 0) ⊎ (task ≡ 0 → ⊥) → amount_of meaning (load width len shares) task ≡ share_of shares task
    load_amount task (inl e) = rw e refl
    load_amount task (inr d) =
        amount_of_lem (load width len shares) r.held task (omega (arith, d))
        ∙ r.amounts task ∙ sym (merged_amount (filled 0 width start) task) ∙ ap (λ (m : Merged). amount m task) begins
        ∙ omega (arith, ordered_due task 1 [] shares (task - 1) (omega (arith, d)), cond-false (eqb task 0) 0 (get_or shares (task - 1) 0) (ne_eqb task 0 d))

    pub loaded : (s : State) → Loaded meaning s width len shares (load width len shares)
    loaded s = record {
      fit = f;
      cores = r.width ∙ ap (λ (m : Merged). m.width) begins;
      ticks = r.left ∙ ap (λ (m : Merged). m.left) begins;
      amounts = λ task. load_amount task (cases_eq task 0);
      some_slice = allowance_some (load width len shares) (omega (arith, r.left, ap (λ (m : Merged). m.left) begins, f.limits.2));
      few_slices = omega (arith, allowance_le (load width len shares), r.no_more, jobs_length (filled 0 width start), ap (λ (m : Merged). length m.jobs) begins, ordered_length 1 [] shares);
      goes = refl;
    }

-- a new one
pub new_sound : Sound new
new_sound = record {
  held = record {
    narrow = omega arith;
    apart = λ c. omega arith;
    inside = tt;
    inside_taken = tt;
    tasks = λ task. omega arith;
    known = λ task l. refl;
    numbered = refl;
    rises = λ i j d le lt. absurd (omega arith);
    bounded = tt;
    urgent = tt;
    staffed = omega arith;
    unended = λ w. absurd (omega arith);
    room = λ w. absurd (omega arith);
    full = λ w. absurd (omega arith);
  };
  prompt = λ l. absurd (omega arith);
}
