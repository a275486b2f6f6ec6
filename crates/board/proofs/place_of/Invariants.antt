use mathlib.Core.Path.{◌≡◌}
use Prim.Native.Nat.{◌≤◌}
use lib.ListN.{take}
use Rattle.lists.specs.Choose.{scan, counting}
use Rattle.board.specs.Board.{before_at}
use Rattle.board.proofs.place_of.Given as goal

abbrev pub invariant-loop-j : goal.invariant-loop-j
invariant-loop-j l = (l.place ≡ scan (counting (before_at l.i l.e)) 0 0 (take l.j l.all)) × (l.place ≤ l.j)
