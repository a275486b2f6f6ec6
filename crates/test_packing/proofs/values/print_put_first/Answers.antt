use lib.ListN.{length-take}
use native.Mathlib.Omega.{arith}
use Rattle.test_packing.proofs.values.print_put_first.Goals as goal

pub slice_bounds-print_put-end-then-n-room : goal.slice_bounds-print_put-end-then-n-room
slice_bounds-print_put-end-then-n-room g c = simp length-take (omega arith)
