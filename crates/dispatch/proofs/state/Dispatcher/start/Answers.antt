-- A dispatcher that is started is begun, and so every run of it keeps the promise.
use Rattle.std.proofs.Common.{◌≡◌, ◌^◌, ◌<◌, sym, ap, ◌∙◌, subst, rules}
use Rattle.dispatch.specs.declared.books.Books.{Books}
use Rattle.dispatch.specs.Books.{Opened}
use Rattle.dispatch.specs.Runs.{Begun}
use Rattle.dispatch.proofs.Opening.{begun_of}
use Rattle.dispatch.proofs.Placed.{promise_of_placement}
use Rattle.dispatch.proofs.state.Dispatcher.start.Goals as goal

pub returns : goal.returns
returns g c =
    let p = c.args.placement in
    let d = c.at.result in
    let e = c.at.ensures in
    let books : d.books ≡ c.blank-books.result = e.books in
    let opened : Opened p d.books.accounts = subst (Opened p) (sym (ap (λ (b : Books). b.accounts) books ∙ c.blank-books.ensures.accounts)) c.opened.ensures in
    let zero = c.blank-books.ensures.zero in
    let begun : Begun p c.args.scheduler c.args.first d = begun_of e.placement e.scheduler e.place (ap (λ (b : Books). b.slices) books ∙ zero.0, ap (λ (b : Books). b.switches) books ∙ zero.1, ap (λ (b : Books). b.busy) books ∙ zero.2) opened in
    let early : c.args.first < 2 ^ 32 = search rules in
    record {
      begun = begun;
      promise = λ calls e run. promise_of_placement g.S.LocalScheduler.meaning p c.args.scheduler c.args.first d e calls early begun run;
    }
