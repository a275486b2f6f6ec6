use Prim.Native.Nat.{◌-◌}
use lib.ListN.{length}
use Rattle.bench_played.proofs.PlayedLaws.{Playing}
use Rattle.bench_played.proofs.play.Given as goal

abbrev pub invariant-loop-series : goal.invariant-loop-series
invariant-loop-series l = Playing l.initial.series l.run l.initial.out l.series l.at l.out l.used

abbrev pub decreases-loop-series : goal.decreases-loop-series
decreases-loop-series l = length l.run - l.at
