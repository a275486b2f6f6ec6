use Rattle.book.proofs.ChangeLaws.{length-hit, hit-fits}
use Rattle.book.proofs.ShapeLaws.{length-entries, holds}
use Rattle.book.specs.Change.{hit_both}
use Rattle.book.specs.Shape.{entries_of}
use borrow.Author.Tests.{lt-ltb, le-ltb}
use native.Mathlib.Omega.{arith}
use Rattle.book.proofs.change.traded.Goals as goal

pub taken-requires : goal.taken-requires
taken-requires c =
    let d = holds c.taken-c.ensures (hit-fits c.args.b c.args.j c.args.quantity c.requires.well) in
    record {
      well = d.well;
      inside =
          omega (
            arith,
            d.size,
            length-hit c.args.j c.args.quantity (entries_of c.args.b),
            length-entries c.args.b c.requires.well,
            c.requires.two,
          );
    }

pub returns-then-i-j : goal.returns-then-i-j
unfolding hit_both
returns-then-i-j c =
    let d = holds c.taken-c.ensures (hit-fits c.args.b c.args.j c.args.quantity c.requires.well) in
    rw (lt-ltb _ _ c.if-i-j.true, ← d.list) c.taken.ensures

pub taken-requires-2 : goal.taken-requires-2
taken-requires-2 c =
    let d = holds c.taken-c-2.ensures (hit-fits c.args.b c.args.i c.args.quantity c.requires.well) in
    record {
      well = d.well;
      inside =
          omega (
            arith,
            d.size,
            length-hit c.args.i c.args.quantity (entries_of c.args.b),
            length-entries c.args.b c.requires.well,
            c.requires.one,
            c.requires.apart,
            c.if-i-j.false,
          );
    }

pub returns : goal.returns
unfolding hit_both
returns c =
    let d = holds c.taken-c-2.ensures (hit-fits c.args.b c.args.i c.args.quantity c.requires.well) in
    rw (le-ltb _ _ c.if-i-j.false, ← d.list) c.taken-2.ensures
