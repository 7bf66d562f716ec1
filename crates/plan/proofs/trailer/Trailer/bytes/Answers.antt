use Rattle.std.proofs.Common.{◌≡◌, ◌/◌, ◌%◌, [], ◌∷◌, ◌++◌, ap, ◌∙◌, arith}
use Rattle.plan.specs.File.{bytes_of, trailer_bytes}
use Rattle.plan.specs.Plans.{written}
use Rattle.plan.proofs.trailer.Trailer.bytes.Goals as goal

pub returns : goal.returns
unfolding trailer_bytes
returns c =
    let t = c.args.self in
    let cores : t.cores ≡ t.cores / 1 % 256 = omega arith in
    let count : t.count ≡ t.count / 1 % 256 = omega arith in
    let counts : t.cores ∷ t.count ∷ [] ≡ bytes_of 1 t.cores ++ bytes_of 1 t.count = cc (cores, count) in
    let two = c.put-2.ensures.is ∙ ap (λ o. written o 4 (bytes_of 4 t.sheet)) c.put.ensures.is in
    let three = c.put-3.ensures ∙ ap (written c.put-2.new.out 8) counts ∙ ap (λ o. written o 8 (bytes_of 1 t.cores ++ bytes_of 1 t.count)) two in
    c.put-4.ensures.is ∙ ap (λ o. written o 10 (bytes_of 2 t.rows)) three
