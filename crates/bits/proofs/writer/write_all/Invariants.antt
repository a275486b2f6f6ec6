use Rattle.bits.proofs.WriteLaws.{Writing}
use Rattle.bits.proofs.writer.write_all.Given as goal

abbrev pub invariant-loop-w : goal.invariant-loop-w
invariant-loop-w l = Writing l.ws l.xs l.initial.out l.out l.w-iterator.a.rest.now l.w-iterator.b.rest.now
