use Rattle.bits.proofs.TestLaws.{Fitting}
use Rattle.bits.proofs.tests.fits.Given as goal

abbrev pub invariant-loop-w : goal.invariant-loop-w
invariant-loop-w l = Fitting l.ws l.xs l.w-iterator.a.rest.now l.w-iterator.b.rest.now
