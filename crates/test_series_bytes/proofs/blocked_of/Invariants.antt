use Prim.Native.Nat.{ℕ, ◌+◌}
use mathlib.Core.Bool.{false}
use lib.Dec.{eqb}
use Rattle.test_reading.specs.Number.{byte_at}
use Rattle.test_reading.proofs.RowLaws.{Filled}
use Rattle.test_series_bytes.proofs.blocked_of.Given as goal

abbrev pub invariant-loop-i : goal.invariant-loop-i
invariant-loop-i l = Filled false (λ (k : ℕ). eqb (byte_at l.bytes (34 + k)) 1) 16 l.blocked l.i
