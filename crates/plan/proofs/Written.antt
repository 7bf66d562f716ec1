-- One piece written behind another.
use Rattle.std.proofs.Common.{◌≡◌, ℕ, ◌+◌, ◌≤◌, List, ◌++◌, length, take, drop, sym, ap, ◌∙◌, arith}
use borrow.Rule.Slice.PartMut.{put_mid}
use Rattle.std.proofs.lemmas.List.{append_assoc, drop-drop, drop_at, length-append, length-take-le, take-append-drop, take_at}
use Rattle.std.proofs.lemmas.Slice.{take-put_mid, drop-put_mid}
use Rattle.plan.specs.Plans.{written}

-- a write over a part
pub written_part : (out ys bs : List ℕ) (at k : ℕ) → ys ≡ bs → k ≡ length bs → at + length bs ≤ length out → put_mid at k out ys ≡ written out at bs
written_part out ys bs at k e l room =
    let n = at + length bs in
    let same : length ys ≡ length bs = ap length e in
    sym (take-append-drop n (put_mid at k out ys))
    ∙ ap (λ a. a ++ drop n (put_mid at k out ys)) (take-put_mid at k out ys n (omega arith) (omega arith) ∙ ap (λ a. take at out ++ a) e)
    ∙ ap (λ a. (take at out ++ bs) ++ a) (drop-put_mid at k out ys n (omega arith) (omega arith) (omega arith))
    ∙ append_assoc (take at out) bs (drop n out)

pub written_both : (out p q : List ℕ) (at next : ℕ) → at ≤ length out → at + length p ≡ next → written (written out at p) next q ≡ written out at (p ++ q)
written_both out p q at next room e =
    let front = take at out ++ p in
    let rest = drop (at + length p) out in
    let size : length front ≡ next = length-append (take at out) p ∙ omega (arith, length-take-le at out room) in
    let whole : written out at p ≡ front ++ rest = sym (append_assoc (take at out) p rest) in
    let before : take next (written out at p) ≡ front = ap (take next) whole ∙ take_at front rest next size in
    let behind : drop (next + length q) (written out at p) ≡ drop (at + length (p ++ q)) out =
    ap (drop (next + length q)) whole ∙ sym (drop-drop (length q) next (front ++ rest)) ∙ ap (drop (length q)) (drop_at front rest next size)
    ∙ drop-drop (length q) (at + length p) out ∙ ap (λ (k : ℕ). drop k out) (omega (arith, length-append p q)) in
    ap (λ l. l ++ (q ++ drop (next + length q) (written out at p))) before ∙ ap (λ l. front ++ (q ++ l)) behind
    ∙ append_assoc (take at out) p (q ++ drop (at + length (p ++ q)) out) ∙ ap (λ l. take at out ++ l) (sym (append_assoc p q (drop (at + length (p ++ q)) out)))

-- four pieces, one behind the other, from the start on
pub written_four : (out n e s t o₁ o₂ o₃ o₄ : List ℕ) (a b c : ℕ) → o₁ ≡ written out 0 n → o₂ ≡ written o₁ a e → o₃ ≡ written o₂ b s → o₄ ≡ written o₃ c t
    → length n ≡ a → a + length e ≡ b → b + length s ≡ c → o₄ ≡ written out 0 (n ++ (e ++ (s ++ t)))
written_four out n e s t o₁ o₂ o₃ o₄ a b c p q r u la lb lc =
    let two : o₂ ≡ written out 0 (n ++ e) = q ∙ ap (λ o. written o a e) p ∙ written_both out n e 0 a (omega arith) (omega arith) in
    let three : o₃ ≡ written out 0 ((n ++ e) ++ s) = r ∙ ap (λ o. written o b s) two ∙ written_both out (n ++ e) s 0 b (omega arith) (omega (arith, length-append n e)) in
    u ∙ ap (λ o. written o c t) three ∙ written_both out ((n ++ e) ++ s) t 0 c (omega arith) (omega (arith, length-append (n ++ e) s, length-append n e))
    ∙ ap (written out 0) (append_assoc (n ++ e) s t ∙ append_assoc n e (s ++ t))
