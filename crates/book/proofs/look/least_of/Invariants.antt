use Rattle.std.specs.Prelude.{Option}
use Rattle.lists.specs.Choose.{keyed}
use Rattle.book.specs.declared.Entry.{Entry}
use Rattle.book.proofs.NumberLaws.{Soonest}
use mathlib.Core.Path.{◌≡◌}
use mathlib.Core.Bool.{Bool}
use Prim.Native.Nat.{ℕ}
use Rattle.book.proofs.look.least_of.Given as goal

abbrev pub invariant-loop-i : goal.invariant-loop-i
invariant-loop-i g l =
    (test : Entry → Bool) (key : Entry → ℕ) → ((e : Entry) (k : Option ℕ) → goal.F-post g l.key_of e k → k ≡ keyed test key e)
    → Soonest test key l.e-items l.held l.i
