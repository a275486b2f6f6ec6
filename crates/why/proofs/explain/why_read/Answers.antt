use Rattle.handler.proofs.RefuseLaws.{refused_by}
use Rattle.why.proofs.ExplainLaws.{explains-10}
use Rattle.why.proofs.explain.why_read.Goals as goal

pub returns-in_err-refuse_if : goal.returns-in_err-refuse_if
returns-in_err-refuse_if c =
    let a = c.args in
    let p = refused_by _ _ c.in_err-refuse_if.ensures _ c.from_residual.ensures.1 in
    rw p.1 (explains-10 a.series a.read a.place a.room.now p.0)
