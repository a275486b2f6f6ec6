use Prim.Native.Nat.{◌+◌}
use mathlib.Core.Path.{refl}
use native.Mathlib.Omega.{arith}
use lib.ListN.{length, get_or}
use Rattle.book.specs.Shape.{zero_entry}
use Rattle.lines.proofs.TextLaws.{lines_start, lines-room, lines-turn, lines_done}
use Rattle.board.specs.Board.{line_at, board_text}
use Rattle.board.proofs.BoardLaws.{left_from, next-line, no_line}
use Rattle.board.proofs.put_entries.Goals as goal

pub loop-i-init : goal.loop-i-init
unfolding board_text
loop-i-init c = lines_start refl

pub put_entry-requires : goal.put_entry-requires
put_entry-requires c = (
  record { few = c.requires.0; inside = c.loop-i-test.true },
  lines-room c.loop-i-test.true c.loop-i.invariant c.requires.1,
)

pub loop-i-preserved : goal.loop-i-preserved
loop-i-preserved c =
    let a = c.args in
    let all = a.all.now in
    let i = c.loop-i.i in
    lines-turn (line_at a.number all i (get_or all i zero_entry)) (left_from a.number all (i + 1)) (next-line a.number all i zero_entry c.loop-i-test.true)
    c.loop-i.invariant
    c.put_entry.ensures

pub returns : goal.returns
returns c =
    let a = c.args in
    lines_done (length a.all.now) (omega (arith, c.loop-i.auto)) (no_line a.number a.all.now c.loop-i.i c.loop-i-test.false) c.loop-i.invariant
