use Prim.Native.Nat.{◌*◌}
use mathlib.Core.Path.{sym}
use native.Mathlib.Omega.{arith}
use lib.Seq.{length-take-le}
use Rattle.why.proofs.explain.told_in.Goals as goal

pub slice_bounds-store-end : goal.slice_bounds-store-end
slice_bounds-store-end c = sym (length-take-le _ _ c.requires.count_in_bounds.0)

pub store-requires : goal.store-requires
store-requires c = omega (arith, length-take-le (14 * c.args.count) c.args.held.now c.requires.count_in_bounds.0, c.requires.count_in_bounds.1)
