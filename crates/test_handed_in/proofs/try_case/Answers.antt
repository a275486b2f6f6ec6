use mathlib.Core.Path.{sym}
use lib.Seq.{length-take-le}
use Rattle.test_handed_in.proofs.try_case.Goals as goal

pub slice_bounds-try_with-end : goal.slice_bounds-try_with-end
slice_bounds-try_with-end g c = sym (length-take-le _ _ c.length_at-size.ensures.1)
