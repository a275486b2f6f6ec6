use Prim.Native.Nat.{◌≤◌, ◌*◌}
use mathlib.Core.Path.{◌≡◌, ap, ◌∙◌}
use native.Mathlib.Omega.{arith}
use native.Mathlib.Numerals.{add-one}
use Prim.Native.Nat.{ℕ}
use lib.ListN.{length}
use lib.Pow.{pow_mono}
use Rattle.bits.specs.Fields.{join, bytes}
use Rattle.bits.proofs.ByteLaws.{join-snoc, more_lt}
use Rattle.bits.proofs.reader.load.Goals as goal

pub overflow_mul-acc : goal.overflow_mul-acc
overflow_mul-acc c =
    let h : 8 * c.loop-byte.byte-index ≤ 56 = omega arith in
    record { fits = omega (arith, pow_mono h) }

pub loop-byte-preserved : goal.loop-byte-preserved
loop-byte-preserved c =
    let l = c.loop-byte in (
      rw (add-one, join-snoc l.byte-index c.args.part.now c.loop-byte-test.true) (omega arith),
      more_lt l.byte-index l.acc c.from.result l.invariant.1 (omega (arith, c.type_inv.part l.byte-index)),
    )

pub returns : goal.returns
returns c =
    let whole : c.loop-byte.byte-index ≡ length c.args.part.now = omega arith in
    c.loop-byte.invariant.0 ∙ ap (λ (n : ℕ). join (bytes n) c.args.part.now) whole
