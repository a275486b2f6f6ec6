-- A kind that does not mind the contra price has the same aims before any.
-- Assumes nothing.
use Prim.Native.Nat.{ℕ}
use mathlib.Core.Path.{◌≡◌, refl}
use mathlib.Core.Bool.{Bool, false}
use Rattle.kinds.specs.Kinds.{minds}
use Rattle.prices.specs.Aims.{minded, aim_display, aim_working, aims}

pub unminded : (m kind : ℕ) (s : Bool) (l a c d : ℕ) → minds kind ≡ false → aims m kind s l a c ≡ aims m kind s l a d
unfolding aim_display aim_working minded
unminded m kind s l a c d q = rw q refl
