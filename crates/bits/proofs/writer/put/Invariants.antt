use Rattle.bits.proofs.WriteLaws.{Shifting}
use Rattle.bits.proofs.writer.put.Given as goal

abbrev pub invariant-loop-i : goal.invariant-loop-i
invariant-loop-i l = Shifting l.initial.out l.w l.x l.out l.carry l.i
