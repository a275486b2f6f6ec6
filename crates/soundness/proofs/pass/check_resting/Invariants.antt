use Rattle.soundness.proofs.PassLaws.{Reading}
use Rattle.soundness.proofs.pass.check_resting.Given as goal

abbrev pub invariant-loop-i : goal.invariant-loop-i
invariant-loop-i l = Reading l.m l.given l.b.entries l.b.count l.best l.numbers l.seats l.i
