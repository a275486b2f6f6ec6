use Prim.Native.Nat.{ℕ, suc, ◌+◌, ◌-◌, ◌*◌, ◌%◌, ◌^◌, ◌≤◌}
use mathlib.Core.Path.{◌≡◌}
use native.Mathlib.Omega.{arith}
use Rattle.bits.proofs.WriteLaws.{shift-step, shift-done}
use Rattle.bits.proofs.ByteLaws.{one_shl}
use Rattle.bits.proofs.writer.put.Goals as goal

pub loop-i-preserved : goal.loop-i-preserved
loop-i-preserved c =
    let a = c.args in
    let l = c.loop-i in
    let h : a.w ≤ 32 = omega arith in
    let e : l.i ≡ suc (l.i - 1) = omega arith in
    let t : ℕ = c.from.result * (1 * 2 ^ a.w % 2 ^ 64) + l.carry in
    shift-step a.out.now a.w a.x l.out l.carry (l.i - 1) t (rw e at l.invariant) h
    (rw (one_shl a.w h, c.from.ensures))

pub returns : goal.returns
returns c =
    let a = c.args in
    let l = c.loop-i in
    let e : l.i ≡ 0 = omega arith in
    (shift-done a.out.now a.w a.x l.out l.carry (rw e at l.invariant), l.invariant.ok)
