use Rattle.std.proofs.Common.{rules, ◌≡◌, refl}
use Rattle.sheet.specs.Held.{held, task_in}
use Rattle.chart.proofs.Built.{built}
use Rattle.dispatch.specs.declared.books.Account.{Account}
use Rattle.dispatch.specs.Books.{nothing}
use Rattle.dispatch.proofs.accounts.opened.Goals as goal

pub returns : goal.returns
returns c = λ i l. built _ (λ s. s.0.now ≡ c.args.placement.now) (λ k. let a : Account = record { given = 0; owed = (task_in (held c.args.placement.now) k).run_time } in a) (λ s t k y p called. search rules) 32 _ c.from_fn.result refl c.from_fn.ensures.items i l nothing
