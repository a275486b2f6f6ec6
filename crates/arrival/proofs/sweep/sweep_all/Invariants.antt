use Rattle.lists.specs.Tests.{count}
use Rattle.arrival.specs.Cancel.{swept}
use Rattle.book.specs.Shape.{entries_of}
use Rattle.telling.specs.Lent.{SameRoom}
use Rattle.arrival.proofs.SweepingLaws.{SweepLoop}
use Rattle.arrival.proofs.sweep.sweep_all.Given as goal

abbrev pub invariant-loop-i : goal.invariant-loop-i
invariant-loop-i l = record {
  going : SweepLoop l.phase l.initial.c l.initial.reports.room.now l.initial.reports.count l.c l.reports.room.now l.reports.count;
  same_room : SameRoom l.initial.reports l.reports;
}

abbrev pub decreases-loop-i : goal.decreases-loop-i
decreases-loop-i l = count (swept l.phase) (entries_of l.c)
