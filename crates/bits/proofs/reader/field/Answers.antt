use Prim.Native.Nat.{ℕ, ◌+◌, ◌-◌, ◌*◌, ◌/◌, ◌%◌, ◌≤◌}
use mathlib.Core.List.{List}
use mathlib.Core.Path.{◌≡◌}
use native.Mathlib.Omega.{arith}
use native.Mathlib.Nat.{mod-lt, lt_of_lt_of_le}
use lib.Pow.{pow_pos, pow_mono}
use Rattle.bits.specs.Fields.{Bytes}
use Rattle.bits.proofs.ByteLaws.{window, one_shl, value-part}
use Rattle.bits.proofs.reader.field.Goals as goal

pub nonzero_rem-result-2 : goal.nonzero_rem-result-2
nonzero_rem-result-2 c = rw (one_shl c.args.w (omega arith)) (pow_pos c.args.w)

pub overflow_cast-result : goal.overflow_cast-result
overflow_cast-result c =
    let w = c.args.w in
    let h : w ≤ 32 = omega arith in
    record { fits = rw (one_shl w h) (lt_of_lt_of_le (mod-lt _ (pow_pos w)) (pow_mono h)) }

pub returns : goal.returns
returns c =
    let a = c.args in
    let s : List ℕ = a.s.now in
    let b : Bytes s = λ i. (c.type_inv.s i).fits in
    let q : ℕ = a.after / 8 in
    let start : ℕ = c.back-start.result in
    let cnt : ℕ = a.n - q - start in
    let e : start + cnt + q ≡ a.n = omega arith in
    let e' : 8 * q + a.after % 8 ≡ a.after = omega arith in
    rw (one_shl a.w (omega arith), c.load-v.ensures, value-part s start cnt (omega arith))
    (rw (e, e') at (window s start cnt q (a.after % 8) a.w (omega arith) b (omega arith)), mod-lt _ (pow_pos a.w))
