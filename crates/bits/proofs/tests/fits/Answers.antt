use native.Mathlib.Omega.{arith}
use Rattle.bits.proofs.tests.fits.Goals as goal

pub overflow_shl-bound : goal.overflow_shl-bound
overflow_shl-bound c = omega (arith, (rw c.in-Some.ensures.steps.0 at c.loop-w.invariant.narrow).0)
