-- What wrap-round tells, over the plain view of its state.
use Rattle.std.proofs.Common.{◌≡◌, ℕ, ◌*◌, ◌<◌, ◌≤◌, ◌&&◌, leb, length}
use Rattle.std.proofs.lemmas.Bool.{cond-true, cond-false, and_from, and_right, le-leb, lt-leb}
use Rattle.local.specs.Meaning.{Local, amount_of}
use Rattle.wrap.specs.Wrap.{Interval, share_at, line_end, amount, choice, allowance, loaded, after}

abbrev pub meant : Local Interval
meant = record {
  width = λ v. v.width;
  left = λ v. v.left;
  amount = amount;
  choice = choice;
  allowance = allowance;
  loads = λ v width len shares v'. v' ≡ loaded width len shares;
  steps = λ v v'. v' ≡ after v;
}

-- what the state keeps between calls
pub record Good (v : Interval) : Type 0 where
  pub wide : v.width ≤ 16
  pub within : v.left ≤ v.len
  pub size : length v.shares ≡ 32
  pub narrow : (i : ℕ) → share_at v.shares i ≤ v.len
  pub room : line_end v.shares (length v.shares) ≤ v.width * v.len

pub amount_told : (v : Interval) (task : ℕ) → 1 ≤ task → task ≤ 32 → amount_of meant v task ≡ amount v task
amount_told v task a b = cond-true (leb 1 task && leb task 32) (amount v task) 0 (and_from (leb 1 task) (leb task 32) (le-leb 1 task a) (le-leb task 32 b))

pub amount_past : (v : Interval) (task : ℕ) → 32 < task → amount_of meant v task ≡ 0
amount_past v task a = cond-false (leb 1 task && leb task 32) (amount v task) 0 (and_right (leb 1 task) (leb task 32) (lt-leb task 32 a))
