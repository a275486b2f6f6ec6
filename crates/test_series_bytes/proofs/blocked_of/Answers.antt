use Prim.Native.Nat.{ℕ}
use mathlib.Core.Path.{refl, ap}
use mathlib.Core.Bool.{false}
use lib.Dec.{eqb}
use Rattle.test_reading.proofs.RowLaws.{filled_none, filled_more, filled-all}
use Rattle.test_series_bytes.proofs.blocked_of.Goals as goal

pub loop-i-init : goal.loop-i-init
loop-i-init c = filled_none false _ refl

pub loop-i-preserved : goal.loop-i-preserved
loop-i-preserved c = filled_more false _ c.loop-i.invariant c.loop-i-test.true (ap (λ (k : ℕ). eqb k 1) c.byte_at.ensures)

pub returns : goal.returns
returns c = filled-all false _ c.loop-i.invariant c.loop-i-test.false
