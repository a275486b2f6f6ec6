use Rattle.series_buffer.proofs.PlacesLaws.{part-written, write-start, write-past, write_done}
use native.Mathlib.Omega.{arith}
use mathlib.Core.Path.{sym, ◌∙◌}
use Prim.Native.Nat.{◌+◌, ◌-◌, ◌*◌}
use Rattle.series_buffer.specs.Entry.{entry_size}
use borrow.Author.Rules.{rules}
use Rattle.series_buffer.proofs.places.write_all.Goals as goal

pub loop-i-init : goal.loop-i-init
loop-i-init c = write-start _ _ (search rules) c.requires

pub slice_bounds-write-end : goal.slice_bounds-write-end
slice_bounds-write-end c = omega (arith, c.loop-i.invariant.size, c.loop-i-test.true)

pub write-requires : goal.write-requires
write-requires c =
    part-written c.loop-i.out c.loop-i.i c.loop-i.invariant.size
    c.loop-i-test.true

pub loop-i-preserved : goal.loop-i-preserved
loop-i-preserved c =
    write-past c.args.places c.loop-i.i
    c.loop-i.out c.loop-i.invariant
    c.loop-i-test.true
    (entry_size * c.loop-i.i + entry_size - entry_size
    * c.loop-i.i) (omega arith) _ c.write.ensures

pub shape_of-out : goal.shape_of-out
shape_of-out c = c.loop-i.invariant.size ∙ sym c.requires

pub returns : goal.returns
returns c = write_done c.args.places c.loop-i.i c.loop-i.out c.loop-i.invariant c.loop-i-test.false
