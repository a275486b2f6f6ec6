-- `load`: the loop's number is that of the bytes passed, and is below 2 ^ (8 * i).
use Prim.Native.Nat.{◌<◌, ◌*◌, ◌^◌}
use mathlib.Core.Path.{◌≡◌}
use Rattle.bits.specs.Fields.{join, bytes}
use Rattle.bits.proofs.reader.load.Given as goal

abbrev pub invariant-loop-byte : goal.invariant-loop-byte
invariant-loop-byte l = (l.acc ≡ join (bytes l.byte-index) l.part) × (l.acc < 2 ^ (8 * l.byte-index))
