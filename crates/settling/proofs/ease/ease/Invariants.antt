use Rattle.telling.specs.Lent.{SameRoom}
use Rattle.settling.proofs.Turning.{EaseLoop}
use Rattle.settling_theory.specs.Settle.{easings}
use Rattle.book.specs.Shape.{entries_of}
use Rattle.settling.proofs.ease.ease.Given as goal

abbrev pub invariant-loop-i : goal.invariant-loop-i
invariant-loop-i l = record {
  going : EaseLoop l.market l.initial.book l.initial.reports.room.now l.initial.reports.count l.book l.reports.room.now l.reports.count;
  same_room : SameRoom l.initial.reports l.reports;
}

abbrev pub decreases-loop-i : goal.decreases-loop-i
decreases-loop-i l = easings l.market (entries_of l.book)
