use Rattle.lines.proofs.AnswerLaws.{accepted-text, refused-text}
use Rattle.lines.proofs.text.Text.answer.Goals as goal

pub refusal-requires : goal.refusal-requires
refusal-requires c =
    let a = c.args in
    rw (refused-text a.number a.refusal a.count a.room.now c.if-refusal-ne0.true).0 at c.requires

pub returns-then-refusal-ne0 : goal.returns-then-refusal-ne0
returns-then-refusal-ne0 c =
    let a = c.args in
    rw (refused-text a.number a.refusal a.count a.room.now c.if-refusal-ne0.true).0 c.refusal.ensures

pub reports-requires : goal.reports-requires
reports-requires c =
    let a = c.args in
    rw (accepted-text a.number a.refusal a.count a.room.now c.if-refusal-ne0.false).0 at c.requires

pub returns : goal.returns
returns c =
    let a = c.args in
    rw (accepted-text a.number a.refusal a.count a.room.now c.if-refusal-ne0.false).0 c.reports.ensures
