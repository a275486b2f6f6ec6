use Rattle.telling.specs.Lent.{SameRoom}
use Rattle.settling.proofs.Turning.{StirLoop}
use Rattle.settling_theory.specs.Settle.{stirrings}
use Rattle.book.specs.Shape.{entries_of}
use Rattle.settling.proofs.stir.stir.Given as goal

abbrev pub invariant-loop-i : goal.invariant-loop-i
invariant-loop-i l = record {
  going : StirLoop l.market l.initial.book l.initial.reports.room.now l.initial.reports.count l.book l.reports.room.now l.reports.count;
  same_room : SameRoom l.initial.reports l.reports;
}

abbrev pub decreases-loop-i : goal.decreases-loop-i
decreases-loop-i l = stirrings l.market (entries_of l.book)
