use Rattle.std.proofs.Common.{◌≡◌, ℕ, ◌-◌, ◌/◌, ◌%◌, ◌≤◌, List, [], ◌∷◌, length, get_or, take, drop, sym, ap, ◌∙◌, arith, rules}
use Rattle.plan.specs.File.{field, number_of, trailer_bytes}
use Rattle.plan.proofs.Feet.{foot, five}
use Rattle.plan.proofs.trailer.Trailer.of.Goals as goal

pub returns : goal.returns
unfolding field trailer_bytes
returns c =
    let bs = c.args.bytes.now in
    let long : 12 ≤ length bs = search rules in
    let last = foot bs long in
    let part : ℕ → ℕ → List ℕ → ℕ = λ i w ys. number_of (take w (drop i ys)) in
    let m : get_or bs (length bs - 4) 0 / 1 % 256 ≡ get_or bs (length bs - 4) 0 = omega arith in
    let n : get_or bs (length bs - 3) 0 / 1 % 256 ≡ get_or bs (length bs - 3) 0 = omega arith in
    let one : ℕ → List ℕ = λ x. x ∷ [] in
    record {
      long = search rules;
      card = c.first.ensures.is ∙ sym (ap (part 0 4) last);
      sheet = c.first-2.ensures.is ∙ sym (ap (part 4 4) last);
      cores = omega (arith, ap (part 8 1) last);
      count = omega (arith, ap (part 9 1) last);
      rows = c.first-3.ensures.is ∙ sym (ap (part 10 2) last);
      back = five c.first.ensures.back c.first-2.ensures.back (ap one m) (ap one n) c.first-3.ensures.back ∙ sym last;
    }
