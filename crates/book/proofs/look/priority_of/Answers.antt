use mir.Val.{bool_byte}
use mathlib.Core.Path.{◌≡◌, refl}
use mathlib.Core.Bool.{Bool, true, false, cond, not}
use Prim.Native.Nat.{◌<◌}
use native.Mathlib.Omega.{arith}
use Rattle.book.specs.Look.{priority}
use Rattle.book.proofs.look.priority_of.Goals as goal

one-more : (b : Bool) → (bool_byte (not b) ≡ cond b 0 1) × (bool_byte b < 2)
one-more true = (refl, omega arith)
one-more false = (refl, omega arith)

pub returns : goal.returns
unfolding priority
returns c = (
  rw (c.from.ensures, c.cost_of.ensures, c.from-2.ensures, c.is_displayed.ensures, (one-more _).0) refl,
  omega (arith, c.from.ensures, c.cost_of.type_inv, c.from-2.ensures, (one-more (not c.is_displayed.result)).1),
)
