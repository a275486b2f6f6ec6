use Rattle.series_buffer.proofs.StateLaws.{rest-left, all-written, all-sized}
use lib.Seq.{length-take-le}
use native.Mathlib.Omega.{arith}
use mathlib.Core.Path.{sym}
use Rattle.series_buffer.specs.Header.{header_size}
use borrow.Author.Rules.{rules}
use Rattle.series_buffer.proofs.whole.write.Goals as goal

pub slice_bounds-write-end-2 : goal.slice_bounds-write-end-2
slice_bounds-write-end-2 c = sym (length-take-le header_size c.args.out.now (omega (arith, c.requires)))

pub write-requires : goal.write-requires
write-requires c = length-take-le header_size c.args.out.now (omega (arith, c.requires))

pub write_all-requires : goal.write_all-requires
write_all-requires c =
    rest-left c.args.out.now _ c.args.h
    c.requires c.write.ensures

pub shape_of-out : goal.shape_of-out
shape_of-out c =
    all-sized c.args.out.now _
    c.args.h
    c.requires c.write.ensures _
    c.args.entries c.write_all.ensures (search rules)

pub returns : goal.returns
returns c =
    all-written c.args.out.now _
    c.args.h
    c.requires c.write.ensures _
    c.args.entries c.write_all.ensures
