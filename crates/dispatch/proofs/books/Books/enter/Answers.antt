use Rattle.std.proofs.Common.{ℕ, ◌+◌, ◌*◌, ◌<◌, cond, List, [], Option, sym, refl, ap, ◌∙◌, subst}
use Rattle.card.specs.declared.types.Card.{Card}
use Rattle.sheet.specs.declared.types.Sheet.{Sheet}
use Rattle.sheet.specs.Held.{count_in, task_in}
use Rattle.dispatch.specs.Books.{paid_to, tallied}
use Rattle.dispatch.specs.Counts.{changed}
use Rattle.dispatch.proofs.books.Books.enter.Goals as goal

pub returns : goal.returns
returns c = λ card sheet h.
    let b = c.args.self.now in
    let z = c.args.slice.now in
    let before = c.pay_all.ensures in
    record {
      accounts = λ i l. before.accounts i (subst (λ (o : Option (Card × Sheet)). i < count_in o) (sym h) l) ∙ ap (λ (o : Option (Card × Sheet)). paid_to b c.args.first c.args.tick z i (task_in o i)) h;
      slices = c.saturating_add-self.ensures ∙ ap (λ (n : ℕ). tallied (n + 1)) before.slices;
      switches = c.saturating_add-self-2.ensures ∙ ap (λ (n : ℕ). tallied (c.pay_all.new.self.switches + n)) (c.switches_to-switches.ensures ∙ ap (λ (s : List ℕ). changed (cond c.args.first [] s) z.seats) before.seats) ∙ ap (λ (n : ℕ). tallied (n + changed (cond c.args.first [] b.seats) z.seats)) before.switches;
      busy = c.saturating_add-self-3.ensures ∙ ap (λ (n : ℕ). tallied (n + c.from.result * c.from-2.result)) before.busy ∙ ap (λ (n : ℕ). tallied (b.busy + n * c.from-2.result)) c.from.ensures ∙ ap (λ (n : ℕ). tallied (b.busy + z.length * n)) (c.from-2.ensures ∙ c.busy_cores.ensures.ones);
      seats = refl;
    }
