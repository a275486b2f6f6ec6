use Rattle.bits.specs.Fields.{join, bytes}
use Rattle.bits.proofs.ReadLaws.{Reading}
use Rattle.bits.proofs.reader.read_all.Given as goal

abbrev pub invariant-loop-j : goal.invariant-loop-j
invariant-loop-j l = Reading l.ws (join (bytes l.n) l.s) l.xs l.after l.j
