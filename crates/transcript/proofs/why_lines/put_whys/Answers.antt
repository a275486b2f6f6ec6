use Prim.Native.Nat.{◌+◌}
use native.Mathlib.Omega.{arith}
use Rattle.std.specs.Prelude.{Some, Ok}
use Rattle.packing.specs.Room.{report_at}
use Rattle.why.specs.Why.{why_of}
use Rattle.lines.proofs.TextLaws.{lines_start, lines-room, lines-turn, lines_done}
use Rattle.transcript.specs.WhyLines.{why_line}
use Rattle.transcript.proofs.WhyLaws.{whys_from, all-whys, next-why, no-why}
use Rattle.transcript.proofs.why_lines.put_whys.Goals as goal

pub loop-place-init : goal.loop-place-init
loop-place-init c =
    let a = c.args in
    lines_start (all-whys a.number a.series (Some a.event) a.room.now a.count)

pub put_why-requires : goal.put_why-requires
put_why-requires c = lines-room c.loop-place-test.true c.loop-place.invariant c.requires.2

pub loop-place-preserved : goal.loop-place-preserved
loop-place-preserved c =
    let a = c.args in
    let e = Some a.event in
    let k = c.loop-place.place in
    lines-turn (why_line a.number k (Ok (why_of a.series e (report_at a.room.now k)))) (whys_from a.number a.series e a.room.now a.count (k + 1))
    (next-why a.number a.series e a.room.now a.count k c.loop-place-test.true)
    c.loop-place.invariant
    (rw c.why_at_place-why.ensures at c.put_why.ensures)

pub returns : goal.returns
returns c =
    let a = c.args in
    lines_done a.count (omega (arith, c.loop-place.auto))
    (no-why a.number a.series (Some a.event) a.room.now a.count c.loop-place.place c.loop-place-test.false)
    c.loop-place.invariant
