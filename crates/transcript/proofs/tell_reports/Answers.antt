use mathlib.Core.Path.{sym}
use native.Mathlib.Omega.{arith}
use Rattle.lines.specs.Lines.{lines_of}
use Rattle.transcript.proofs.TextLaws.{lines-few, printed-within}
use Rattle.transcript.proofs.tell_reports.Goals as goal

pub returns-in-Ok-clause-text_put : goal.returns-in-Ok-clause-text_put
returns-in-Ok-clause-text_put c =
    let printed = c.answer_lines.ensures in
    let few = rw c.in-Ok.is at c.requires.0 in
    rw c.in-Ok.is
    (printed-within (lines_of 0 c.in-Ok.answer.count) (lines-few 0 c.in-Ok.answer.count few) c.requires.1 printed.value printed.out_after)

pub returns-in-Err-clause-text_put : goal.returns-in-Err-clause-text_put
returns-in-Err-clause-text_put c =
    let printed = c.answer_lines-in-Err.ensures in
    rw (c.in-Err.is, sym c.from.ensures)
    (printed-within (lines_of c.from.result 0) (lines-few c.from.result 0 (omega arith)) c.requires.1 printed.value printed.out_after)
