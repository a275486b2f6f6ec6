use lib.ListN.{get_or}
use Rattle.book.specs.Shape.{zero_entry}
use native.Mathlib.Omega.{arith}
use Rattle.lines.proofs.TextLaws.{one-line}
use Rattle.board.proofs.BoardLaws.{line-is, line-few}
use Rattle.board.proofs.put_entry.Goals as goal

pub line-requires : goal.line-requires
line-requires c =
    let a = c.args in
    let f = c.fields_of-fields.ensures in
    omega (arith, line-few a.number (get_or a.all.now a.i zero_entry) f.0 c.ranges.number.fits f.1, c.requires.1)

pub returns : goal.returns
returns c =
    let a = c.args in
    let e = get_or a.all.now a.i zero_entry in
    let f = c.fields_of-fields.ensures in
    rw (line-is a.number e f.0 a.all.now a.i c.place_of-place.ensures) at (one-line (line-few a.number e f.0 c.ranges.number.fits f.1) c.line.ensures)
