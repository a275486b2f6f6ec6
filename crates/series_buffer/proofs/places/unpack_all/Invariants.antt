use Rattle.series_buffer.proofs.PlacesLaws.{Reading}
use Rattle.series_buffer.proofs.places.unpack_all.Given as goal

abbrev pub invariant-loop-i : goal.invariant-loop-i
invariant-loop-i l = Reading l.s l.i l.entries
