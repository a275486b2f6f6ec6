use mathlib.Core.Path.{sym}
use Rattle.lines.proofs.BufferLaws.{roomy-not, roomy-by}
use Rattle.lines.proofs.line.is_roomy.Goals as goal

pub returns-then-size-at : goal.returns-then-size-at
returns-then-size-at c =
    let a = c.args in
    sym (roomy-not a.size a.at a.lines c.if-size-at.true)

pub returns : goal.returns
returns c =
    let a = c.args in
    roomy-by a.size a.at a.lines c.if-size-at.false
