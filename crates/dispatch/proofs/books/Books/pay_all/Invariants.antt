-- The accounts in front of the index are paid, and the others are as they were.
use Rattle.std.proofs.Common.{◌≡◌, ℕ, ◌<◌, ◌≤◌, length, get_or}
use Rattle.sheet.specs.Held.{held, task_in}
use Rattle.dispatch.specs.Books.{nothing, paid_to}
use Rattle.dispatch.proofs.books.Books.pay_all.Given as goal

abbrev pub invariant-loop-i : goal.invariant-loop-i
invariant-loop-i l =
    ((k : ℕ) → k < l.i → get_or l.self.accounts k nothing ≡ paid_to l.initial.self l.first l.tick l.slice k (task_in (held l.placement) k))
    × ((k : ℕ) → l.i ≤ k → get_or l.self.accounts k nothing ≡ get_or l.initial.self.accounts k nothing)
    × (l.self.slices ≡ l.initial.self.slices)
    × (l.self.switches ≡ l.initial.self.switches)
    × (l.self.busy ≡ l.initial.self.busy)
    × (l.self.seats ≡ l.initial.self.seats)
    × (length l.self.accounts ≡ 32)
