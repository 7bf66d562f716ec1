-- Each interval of a good sheet can be loaded.
use Rattle.std.proofs.Common.{ℕ, ◌+◌, ◌-◌, ◌*◌, ◌<◌, drop, arith}
use Rattle.std.proofs.lemmas.List.{length-take}
use Rattle.card.specs.declared.types.Card.{Card}
use Rattle.sheet.specs.declared.types.Sheet.{Sheet}
use Rattle.card.specs.Cards.{begins}
use Rattle.sheet.specs.Sheets.{row}
use Rattle.sheet.specs.Verdicts.{Meets}
use Rattle.sheet.proofs.SheetsJudged.{row_all}
use Rattle.local.specs.Meaning.{Fit}
use Rattle.dispatch.proofs.Goods.{Good, to_h}

module _ (card : Card) (h : ℕ) (sheet : Sheet) (good : Good card h sheet) (meets : Meets card h sheet) where
  pub fit_of : (k : ℕ) → k < sheet.rows → Fit card.cores (begins card h (k + 1) - begins card h k) (row sheet k)
  fit_of k l =
      let up = good.rising k l in
      let top = to_h card h sheet good (k + 1) (omega (arith, l)) in
      let short = good.short in
      let len = length-take sheet.count (drop (k * sheet.count) sheet.shares) in
      let few = sheet.few_shares in
      record {
        limits = (card.some_cores, card.few_cores, omega (arith, up), omega (arith, top, short), omega (arith, len, few));
        narrow = row_all sheet k (begins card h (k + 1) - begins card h k) (λ i il. meets.narrow k i l il);
        room = meets.room k l;
      }
