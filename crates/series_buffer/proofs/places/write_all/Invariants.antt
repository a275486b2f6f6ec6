use Rattle.series_buffer.proofs.PlacesLaws.{Writing}
use Rattle.series_buffer.proofs.places.write_all.Given as goal

abbrev pub invariant-loop-i : goal.invariant-loop-i
invariant-loop-i l = Writing l.places l.i l.out
