use Rattle.std.proofs.Common.{◌≡◌, ℕ, ◌+◌, ◌*◌, List, length, sym, refl, ap, ◌∙◌, arith}
use Rattle.std.specs.List.{flat_map}
use Rattle.card.specs.declared.types.Task.{Task}
use Rattle.card.specs.Cards.{tasks_of}
use Rattle.plan.specs.File.{bytes_of, entry_bytes, trailer_bytes}
use Rattle.plan.specs.Plans.{shares_of, written}
use Rattle.plan.proofs.Pieces.{length_joined}
use Rattle.plan.proofs.Sizes.{length_tasks, length_shares}
use Rattle.plan.proofs.Whole.{same_trailer}
use Rattle.plan.proofs.Written.{written_four}
use Rattle.plan.proofs.writer.Pieces.put.Goals as goal

pub returns : goal.returns
returns c =
    let note = c.args.self.now.note.now in
    let card = c.args.self.now.card.now in
    let sheet = c.args.self.now.sheet.now in
    let t = c.trailer-t.result in
    let is = c.trailer-t.ensures in
    let tasks : c.tasks.result.now ≡ tasks_of card = c.tasks.ensures.all in
    let all : c.shares.result.now ≡ shares_of sheet = c.shares.ensures.all in
    let cells : t.rows * t.count ≡ sheet.rows * sheet.count = cc (is.count, is.rows, c.args.self.now.same) in
    let foot : trailer_bytes t.card t.sheet t.cores t.count t.rows ≡ trailer_bytes (length note) (length note + 8 * length (tasks_of card)) card.cores (length (tasks_of card)) sheet.rows =
    same_trailer is.card (omega (arith, is.sheet, length_tasks card)) is.cores (omega (arith, is.count, length_tasks card)) is.rows in
    record {
      is =
          written_four c.args.out.now note (flat_map entry_bytes (tasks_of card)) (flat_map (bytes_of 4) (shares_of sheet)) _ _ _ _ _ t.card t.sheet c.offset.result c.put.ensures
          (c.put_all.ensures.is ∙ ap (λ (l : List Task). written c.put.new.out t.card (flat_map entry_bytes l)) tasks) (c.put_all-2.ensures.is ∙ ap (λ (l : List ℕ). written c.put_all.new.out t.sheet (flat_map (bytes_of 4) l)) all)
          (c.put_trailer.ensures ∙ ap (written c.put_all-2.new.out c.offset.result) foot) (sym is.card)
          (omega (arith, is.card, is.sheet, length_joined 8 entry_bytes (λ y. refl) (tasks_of card), length_tasks card))
          (omega (arith, cells, c.offset.ensures.is, length_joined 4 (bytes_of 4) (λ y. refl) (shares_of sheet), length_shares sheet));
      tasks = rw tasks at c.put_all.ensures.back;
      shares = rw all at c.put_all-2.ensures.back;
    }
