-- What each call does, and runs of calls.
use Rattle.std.specs.Prelude.{◌≡◌, ℕ, ◌+◌, ◌-◌, ◌^◌, ◌<◌, Bool, true, false, cond, ◌&&◌, List, [], ◌∷◌, ◌++◌, get_or, Ok, Err, Option, Result, ◌==◌, nat_le, nat_lt, slice_index_or}
use Rattle.refusal.specs.declared.DispatchFault.{DispatchFault}
use Rattle.refusal.specs.declared.DispatchFault.TheVariants.{LastFrame, NoTask}
use Rattle.refusal.specs.declared.DispatchFault.TheVariants as fault
use Rattle.card.specs.declared.types.Card.{Card}
use Rattle.card.specs.Cards.{Frame, begins, span, run_time_of}
use Rattle.sheet.specs.declared.types.Sheet.{Sheet}
use Rattle.sheet.specs.declared.placement.Placement.{Placement}
use Rattle.sheet.specs.Sheets.{row}
use Rattle.sheet.specs.Held.{held, asked, Holds, Empty}
use Rattle.local.specs.Meaning.{Local, Loaded, Handed}
use Rattle.dispatch.specs.declared.books.Books.{Books}
use Rattle.dispatch.specs.declared.place.Place.{Place}
use Rattle.dispatch.specs.declared.place.Place.TheVariants.{Before, In}
use Rattle.dispatch.specs.declared.state.Dispatcher.{Dispatcher}
use Rattle.dispatch.specs.declared.Stamped.{Stamped}
use Rattle.dispatch.specs.Books.{nothing, Entered}
use Rattle.dispatch.specs.Counts.{stamp_of}

pub record Begun {S : Type 0} (p : Placement) (s : S) (first : ℕ) (d : Dispatcher S) : Type 0 where
  pub held : d.placement ≡ p
  pub over : d.scheduler ≡ s
  pub place : d.place ≡ Before first
  pub accounts : (card : Card) (sheet : Sheet) → Holds p card sheet → (i : ℕ) → i < card.count → slice_index_or d.books.accounts i nothing ≡ record { given = 0; owed = run_time_of card i }
  pub no_slices : d.books.slices ≡ 0
  pub no_switches : d.books.switches ≡ 0
  pub no_busy : d.books.busy ≡ 0

-- Where the next slice lies: inside the interval that is loaded, at the start of an interval, or nowhere, since the last frame was handed out whole.
pub data Where : Type 0 where
  inside : ℕ → ℕ → Where
  at_start : ℕ → ℕ → Where
  past : Where

-- behind interval k of frame f, of n intervals
abbrev pub behind : ℕ → ℕ → ℕ → Where
behind n f k = cond (nat_lt (k + 1) n) (at_start f (k + 1)) (cond (nat_lt (f + 1) (2 ^ 32)) (at_start (f + 1) 0) past)

-- from a place on, with so many ticks left to the scheduler
abbrev pub onward : ℕ → ℕ → Place → Where
onward n left (Before f) = at_start f 0
onward n left (In f k) = cond (left == 0) (behind n f k) (inside f k)

abbrev pub where_next : {S : Type 0} → Local S → ℕ → Dispatcher S → Where
where_next m n d = onward n (m.left d.scheduler) d.place

-- a slice in interval k of frame f, handed out by the scheduler in the state s
pub record Out {S : Type 0} (m : Local S) (card : Card) (h f k : ℕ) (first : Bool) (s : S) (z : Stamped) (d d' : Dispatcher S) : Type 0 where
  pub handed : Handed m s z.slice d'.scheduler
  pub stamp : z.stamp ≡ stamp_of h f (begins card h (k + 1) - m.left s)
  pub placement : d'.placement ≡ d.placement
  pub place : d'.place ≡ In f k
  pub books : Entered card d.books first (begins card h (k + 1) - m.left s) z.slice d'.books

abbrev pub Answers : {S : Type 0} → Local S → Card → Sheet → ℕ → Dispatcher S → Result Stamped DispatchFault → Dispatcher S → Where → Type 0
Answers m card sheet h d r d' (inside f k) = (z : Stamped) × (r ≡ Ok z) × Out m card h f k false d.scheduler z d d'
Answers {S} m card sheet h d r d' (at_start f k) = (z : Stamped) × (s : S) × (r ≡ Ok z) × Loaded m d.scheduler card.cores (span card h k) (row sheet k) s × Out m card h f k true s z d d'
Answers m card sheet h d r d' past = (r ≡ Err LastFrame) × (d' ≡ d)

-- what next slice answers, and what the dispatcher then is
pub record NextSlice {S : Type 0} (m : Local S) (d : Dispatcher S) (r : Result Stamped DispatchFault) (d' : Dispatcher S) : Type 0 where
  pub empty : Empty d.placement → (r ≡ Err fault.Empty) × (d' ≡ d)
  pub filled : (card : Card) (sheet : Sheet) → Holds d.placement card sheet → (h : ℕ) × Frame card h × Answers m card sheet h d r d' (where_next m sheet.rows d)

-- one call, with what it answered
pub data Call : Type 0 where
  next_slice : Result Stamped DispatchFault → Call
  account : ℕ → Result (ℕ × ℕ) DispatchFault → Call
  tally : ℕ × ℕ × ℕ → Call

-- what account answers, by the books
abbrev pub account_in : Option (Card × Sheet) → Books → ℕ → Result (ℕ × ℕ) DispatchFault
account_in o b task = asked (Err NoTask) (λ card _. cond (nat_le 1 task && nat_le task card.count) (Ok ((get_or b.accounts (task - 1) nothing).given, (get_or b.accounts (task - 1) nothing).owed)) (Err NoTask)) o

-- call c takes the dispatcher d to d'; the questions tell what the tables hold and change nothing
abbrev pub Does : {S : Type 0} → Local S → Dispatcher S → Call → Dispatcher S → Type 0
Does m d (next_slice r) d' = NextSlice m d r d'
Does m d (account task r) d' = (r ≡ account_in (held d.placement) d.books task) × (d' ≡ d)
Does m d (tally t) d' = (t ≡ (d.books.slices, d.books.switches, d.books.busy)) × (d' ≡ d)

-- a succession of calls, the newest first, that takes d to e
pub data Run {S : Type 0} (m : Local S) (d : Dispatcher S) : List Call → Dispatcher S → Type 0 where
  none : Run m d [] d
  more : {calls : List Call} {e : Dispatcher S} (c : Call) {e' : Dispatcher S} → Run m d calls e → Does m e c e' → Run m d (c ∷ calls) e'

-- the slices that were answered, in order
abbrev pub answered : Call → List Stamped
answered (next_slice (Ok z)) = z ∷ []
answered (next_slice (Err e)) = []
answered (account task r) = []
answered (tally t) = []

abbrev pub handed : List Call → List Stamped
handed [] = []
handed (c ∷ calls) = handed calls ++ answered c
