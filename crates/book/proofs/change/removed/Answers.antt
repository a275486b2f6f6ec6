use native.Mathlib.Omega.{arith}
use Rattle.lists.proofs.PlaceLaws.{length-snoc}
use Rattle.book.proofs.ShapeLaws.{holds}
use Rattle.book.proofs.ChangeLaws.{drops, without-fits, requeue-fits}
use Rattle.book.specs.Shape.{entries_of, book_of}
use Rattle.book.specs.declared.Entry.{Entry}
use Rattle.lists.specs.Places.{without, requeue}
use mathlib.Core.Path.{ap, ◌∙◌}
use Rattle.book.proofs.change.removed.Goals as goal

pub overflow_sub-c : goal.overflow_sub-c
overflow_sub-c c =
    let e = c.zero_entry-unused.result in
    omega (
      arith,
      (holds c.requeued-c.ensures (requeue-fits c.args.b c.args.i e c.requires)).size,
      length-snoc (without c.args.i (entries_of c.args.b)) e,
    )

pub returns : goal.returns
returns c =
    drops c.requeued-c.result (without c.args.i (entries_of c.args.b))
    (c.requeued-c.ensures
    ∙ ap (λ (e : Entry). book_of (requeue c.args.i e (entries_of c.args.b))) c.zero_entry-unused.ensures)
    (without-fits c.args.b c.args.i c.requires)
