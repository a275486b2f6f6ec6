use Prim.Native.Nat.{◌+◌}
use Rattle.packing.specs.Room.{report_at}
use Rattle.lines.specs.Lines.{line_of, report_lines}
use Rattle.lines.proofs.TextLaws.{putting_start, putting-turn, putting_done, putting-room}
use Rattle.lines.proofs.LineLaws.{left_from, all_lines, next-line, no_line}
use Rattle.lines.proofs.text.Text.reports.Goals as goal

pub loop-k-init : goal.loop-k-init
loop-k-init c =
    let a = c.args in
    putting_start (all_lines a.number a.room.now a.count)

pub place-requires : goal.place-requires
place-requires c =
    let a = c.args in
    let l = c.loop-k in
    putting-room (line_of a.number (report_at a.room.now l.k)) (report_lines a.number (left_from a.room.now a.count (l.k + 1)))
    (next-line a.number a.room.now a.count l.k c.loop-k-test.true)
    l.invariant
    c.requires

pub loop-k-preserved : goal.loop-k-preserved
loop-k-preserved c =
    let a = c.args in
    let l = c.loop-k in
    putting-turn (line_of a.number (report_at a.room.now l.k)) (report_lines a.number (left_from a.room.now a.count (l.k + 1)))
    (next-line a.number a.room.now a.count l.k c.loop-k-test.true)
    l.invariant
    c.place.ensures

pub returns : goal.returns
returns c =
    let a = c.args in
    putting_done (no_line a.number a.room.now a.count c.loop-k.k c.loop-k-test.false) c.loop-k.invariant
