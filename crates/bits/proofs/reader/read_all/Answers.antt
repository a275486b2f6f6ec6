use Prim.Native.Nat.{ℕ}
use mathlib.Core.Path.{◌≡◌}
use lib.ListN.{length}
use native.Mathlib.Omega.{arith}
use Rattle.bits.specs.Fields.{join, bytes}
use Rattle.bits.proofs.ReadLaws.{reading_step, reading-done, narrow_at, total-drop, total-drop-le}
use Rattle.bits.proofs.reader.read_all.Goals as goal

pub overflow_sub-after : goal.overflow_sub-after
overflow_sub-after c = omega (arith, total-drop c.args.ws.now c.loop-j.j (omega arith))

pub field-requires : goal.field-requires
field-requires c =
    let a = c.args in
    let j : ℕ = c.loop-j.j in
    omega (
      arith,
      total-drop a.ws.now j (omega arith),
      total-drop-le a.ws.now j,
      narrow_at a.ws.now j c.requires.3 (omega arith),
    )

pub loop-j-preserved : goal.loop-j-preserved
loop-j-preserved c =
    let a = c.args in
    let l = c.loop-j in
    rw c.from-w.ensures
    (reading_step a.ws.now (join (bytes a.n) a.s.now) l.xs l.after l.j c.field.result l.invariant
    (omega arith) (rw c.from-w.ensures at c.field.ensures.0))

pub returns : goal.returns
returns c =
    let a = c.args in
    let l = c.loop-j in
    let e : l.j ≡ length a.ws.now = omega arith in
    reading-done a.ws.now (join (bytes a.n) a.s.now) l.xs l.after (rw e at l.invariant)
