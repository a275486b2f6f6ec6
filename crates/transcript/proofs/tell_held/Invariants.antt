use Prim.Native.Nat.{◌-◌}
use mathlib.Core.Path.{◌≡◌}
use lib.ListN.{length}
use Rattle.packing.specs.Room.{room_size}
use Rattle.transcript.proofs.HeldLaws.{Underway}
use Rattle.transcript.proofs.tell_held.Given as goal

abbrev pub invariant-loop-view : goal.invariant-loop-view
invariant-loop-view l = Underway l.view l.initial.told.series l.number l.held l.ended l.initial.out l.told l.out × (length l.room ≡ room_size)

abbrev pub decreases-loop-view : goal.decreases-loop-view
decreases-loop-view l = length l.held - l.told.at
