use Rattle.std.proofs.Common.{◌≡◌, ◌+◌, ◌*◌, ◌≤◌, take, drop, sum}
use Rattle.sheet.specs.Verdicts.{judged_shares}
use Rattle.sheet.proofs.judge.row_total.Given as goal

-- what is left of the row gives the whole judgement
abbrev pub invariant-loop-i : goal.invariant-loop-i
invariant-loop-i l =
    (judged_shares l.len l.interval (l.i + 1) (drop l.i l.shares) ≡ judged_shares l.len l.interval 1 l.shares)
    × (l.total ≡ sum (take l.i l.shares)) × (l.total ≤ l.i * 4294967295)
