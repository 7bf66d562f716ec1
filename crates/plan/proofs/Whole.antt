-- What is read from a file gives its bytes again.
use Rattle.std.proofs.Common.{◌≡◌, ℕ, ◌+◌, ◌-◌, ◌*◌, List, ◌++◌, length, take, drop, sym, ap, ◌∙◌, arith}
use Rattle.std.specs.List.{flat_map}
use Rattle.std.proofs.lemmas.List.{drop-drop, take-append-drop, length-take-le}
use Rattle.card.specs.declared.types.Card.{Card}
use Rattle.card.specs.Cards.{tasks_of}
use Rattle.sheet.specs.declared.types.Sheet.{Sheet}
use Rattle.plan.specs.declared.trailer.Trailer.{Trailer}
use Rattle.plan.specs.File.{bytes_of, card_at, count_in, entry_bytes, entry_of, note_in, rows_in, sheet_at, trailer_bytes}
use Rattle.plan.specs.Plans.{CardRead, SheetRead, file_for}
use Rattle.plan.specs.Trailers.{Agrees, Read}
use Rattle.plan.proofs.Agreed.{layout}
use Rattle.plan.proofs.Parts.{length_parts}

-- a part, and what follows it
cut : (bs : List ℕ) (a w b : ℕ) → a + w ≡ b → take w (drop a bs) ++ drop b bs ≡ drop a bs
cut bs a w b e = ap (λ (k : ℕ). take w (drop a bs) ++ drop k bs) (sym e) ∙ ap (λ l. take w (drop a bs) ++ l) (sym (drop-drop w a bs)) ∙ take-append-drop w (drop a bs)

pub same_trailer : {c s m n k c' s' m' n' k' : ℕ} → c ≡ c' → s ≡ s' → m ≡ m' → n ≡ n' → k ≡ k' → trailer_bytes c s m n k ≡ trailer_bytes c' s' m' n' k'
same_trailer {c = c} {s = s} {m = m} {n = n} {k = k} {c' = c'} {s' = s'} {m' = m'} {n' = n'} p q r u v =
    ap (λ (x : ℕ). trailer_bytes x s m n k) p ∙ ap (λ (x : ℕ). trailer_bytes c' x m n k) q ∙ ap (λ (x : ℕ). trailer_bytes c' s' x n k) r
    ∙ ap (λ (x : ℕ). trailer_bytes c' s' m' x k) u ∙ ap (λ (x : ℕ). trailer_bytes c' s' m' n' x) v

joint : (note : List ℕ) {e e' s s' f f' : List ℕ} → e ≡ e' → s ≡ s' → f ≡ f' → note ++ (e ++ (s ++ f)) ≡ note ++ (e' ++ (s' ++ f'))
joint note p q r = cc

pub whole : (bs : List ℕ) (t : Trailer) (card : Card) (sheet : Sheet) → Read bs t → Agrees (length bs) t → CardRead bs card → SheetRead bs sheet → file_for (note_in bs) card sheet ≡ bs
whole bs t card sheet r agrees is are =
    let laid = layout (length bs) t.card t.sheet t.count t.rows agrees.layout in
    let same : t.rows * t.count ≡ rows_in bs * count_in bs = cc (r.rows, r.count) in
    let note : length (note_in bs) ≡ t.card = length-take-le (card_at bs) bs (omega (arith, r.card, r.sheet)) ∙ sym r.card in
    let size : length (tasks_of card) ≡ t.count = ap length is.tasks ∙ length_parts 8 entry_of (count_in bs) (drop (card_at bs) bs) ∙ sym r.count in
    let from_sheet = cut bs (sheet_at bs) (4 * (rows_in bs * count_in bs)) (length bs - 12) (omega (arith, r.sheet)) in
    let from_card = cut bs (card_at bs) (8 * count_in bs) (sheet_at bs) (omega (arith, r.sheet, r.card, r.count)) in
    let foot = same_trailer note (omega arith) (is.cores ∙ sym r.cores) size (are.rows ∙ sym r.rows) ∙ r.back in
    joint (note_in bs) (ap (flat_map entry_bytes) is.tasks ∙ is.back) (ap (flat_map (bytes_of 4)) are.shares ∙ are.back) foot
    ∙ ap (λ l. note_in bs ++ (take (8 * count_in bs) (drop (card_at bs) bs) ++ l)) from_sheet ∙ ap (λ l. note_in bs ++ l) from_card ∙ take-append-drop (card_at bs) bs
