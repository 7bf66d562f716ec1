use Rattle.std.proofs.Common.{◌≡◌, ℕ, ◌^◌, ◌<◌, List, [], ◌∷◌, ◌++◌, length, Ok, vec_items, sym, ap, ◌∙◌, append-nil, arith, rules}
use Rattle.dispatch.specs.declared.Stamped.{Stamped}
use Rattle.dispatch.specs.Counts.{ticks, switches_of, busy_ticks}
use Rattle.dispatch.specs.Runs.{Call, handed}
use Rattle.dispatch.specs.Runs.Call.{next_slice, tally}
use Rattle.dispatch.specs.Runs.Run.{none, more}
use Rattle.dispatch.proofs.Charts.{ticks_push}
use Rattle.frames.proofs.Within.{same_frame, ends_within, hands_out}
use Rattle.frames.proofs.frame_of.Goals as goal

pub loop-done-init : goal.loop-done-init
loop-done-init g c = ([], none, sym c.new-slices.ensures.items, ap ticks c.new-slices.ensures.items, omega arith)

pub unwrap-stamped-requires : goal.unwrap-stamped-requires
unwrap-stamped-requires g c =
    let inv = c.loop-done.invariant in
    let early : c.args.number < 2 ^ 32 = search rules in
    let p = c.in_ok-run.ensures.promise _ _ (more (next_slice c.next_slice.result) inv.1 c.next_slice.ensures) in
    hands_out c.in_ok-length.ensures.frame c.next_slice.result early p (omega (arith, ap ticks inv.2, inv.3, c.loop-done-test.true))

pub loop-done-preserved : goal.loop-done-preserved
loop-done-preserved g c =
    let inv = c.loop-done.invariant in
    let z = c.unwrap-stamped.result in
    let items : vec_items c.push.new.self ≡ vec_items c.loop-done.slices ++ z ∷ [] = c.in_ok-push.ensures.items in
    let calls : List Call = next_slice (Ok z) ∷ inv.0 in
    let run = more (next_slice (Ok z)) inv.1 (rw c.unwrap-stamped.ensures at c.next_slice.ensures) in
    let p = c.in_ok-run.ensures.promise calls _ run in
    let all : handed calls ≡ vec_items c.loop-done.slices ++ z ∷ [] = ap (λ (zs : List Stamped). zs ++ z ∷ []) inv.2 in
    let w = ends_within c.in_ok-length.ensures.frame p (vec_items c.loop-done.slices) z all (omega (arith, inv.3, c.loop-done-test.true)) in
    (calls, run, all ∙ sym items, omega (arith, ap ticks items, ticks_push (vec_items c.loop-done.slices) z, inv.3, c.from-done.ensures), omega (arith, w.1, inv.3, c.from-done.ensures))

pub returns : goal.returns
returns g c =
    let inv = c.loop-done.invariant in
    let t = c.tally.result in
    let calls : List Call = tally t ∷ inv.0 in
    let run = more (tally t) inv.1 c.tally.ensures in
    let p = c.in_ok-run.ensures.promise calls _ run in
    let slices = vec_items c.loop-done.slices in
    let same = same_frame c.in_ok-length.ensures.frame p in
    record {
      calls = calls;
      promise = p;
      all = append-nil (handed inv.0) ∙ inv.2;
      whole = omega (arith, inv.3, inv.4, same, c.loop-done-test.false);
      tallied = p.told.0 ∙ ap (λ (zs : List Stamped). let v : ℕ × ℕ × ℕ = (length zs, switches_of c.args.card.now p.h 0 [] zs, busy_ticks zs) in v) inv.2;
    }
