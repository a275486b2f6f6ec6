use Rattle.arrival.specs.Asks.{taking_of}
use Rattle.arrival.specs.Take.{chances}
use Rattle.telling.specs.Lent.{SameRoom}
use Rattle.arrival.proofs.TradeLaws.{TakingOn}
use Rattle.arrival.proofs.take.take_all.Given as goal

abbrev pub invariant-loop-next : goal.invariant-loop-next
invariant-loop-next l = record {
  going : TakingOn l.cap l.e l.initial.left l.initial.c l.initial.reports.room.now l.initial.reports.count l.left l.c l.reports.room.now l.reports.count;
  same_room : SameRoom l.initial.reports l.reports;
}

abbrev pub decreases-loop-next : goal.decreases-loop-next
decreases-loop-next l = chances (taking_of l.left l.c)
