use mathlib.Core.Path.{sym, ◌∙◌}
use Rattle.handler.proofs.RefuseLaws.{passed_by, refused_by, there_by, missing_by}
use Rattle.server.proofs.ExplainLaws.{explain-short, explain-none, explain-held}
use Rattle.server.proofs.explain.why_held.Goals as goal

pub returns-in_err-refuse_if : goal.returns-in_err-refuse_if
returns-in_err-refuse_if c =
    let p = refused_by _ _ c.in_err-refuse_if.ensures _ c.from_residual.ensures.1 in
    rw p.1 (explain-short c.args.state.now c.args.read c.args.place c.args.room.now p.0)

pub returns-in_err-series : goal.returns-in_err-series
returns-in_err-series c =
    let p = missing_by _ _ c.in_err-series.ensures.value _ c.from_residual-in_err-series.ensures.1 in
    rw p.1
    (explain-none c.args.state.now c.args.read c.args.place c.args.room.now (passed_by _ _ c.in_ok-refuse_if.ensures)
    (sym c.unpack_series.ensures ∙ p.0))

pub returns : goal.returns
returns c =
    c.why_read.ensures
    ∙ explain-held c.args.state.now c.args.read c.args.place c.args.room.now (passed_by _ _ c.in_ok-refuse_if.ensures) _
    (sym c.unpack_series.ensures ∙ there_by _ _ c.in_ok-series.ensures.value)
