use mathlib.Core.Path.{sym}
use native.Mathlib.Omega.{arith}
use lib.ListN.{length}
use Rattle.book.specs.Shape.{entries_of}
use Rattle.transcript.proofs.TextLaws.{printed-within}
use Rattle.transcript.proofs.tell_answer.Goals as goal

pub returns-in-Book-clause-text_put : goal.returns-in-Book-clause-text_put
returns-in-Book-clause-text_put c =
    let printed = c.board_lines.ensures in
    rw (c.in-Book.is, sym c.series_left-series.ensures)
    (printed-within (length (entries_of c.series_left-series.result.book)) (omega (arith, printed.prefix_len.1)) c.requires.1 printed.value printed.out_after)
