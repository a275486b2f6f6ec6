use mathlib.Core.Path.{sym, ap, ◌∙◌}
use borrow.Author.Tests.{not-true, not-false}
use Rattle.handler.proofs.RefuseLaws.{passed_by, refused_by}
use Rattle.server.proofs.CheckLaws.{check-no-series, check-read}
use Rattle.server.proofs.check.check_read.Goals as goal

pub returns-in_err-refuse_if : goal.returns-in_err-refuse_if
returns-in_err-refuse_if c =
    let p = refused_by _ _ c.in_err-refuse_if.ensures _ c.from_residual.ensures.1 in
    rw p.1 (sym (check-no-series c.args.read c.args.m (sym c.is_mpv.ensures ∙ not-true _ p.0)))

pub returns-in_default : goal.returns-in_default
returns-in_default c =
    sym (check-read c.args.read c.args.m _ (sym c.is_mpv.ensures ∙ not-false _ (passed_by _ _ c.in_ok-refuse_if.ensures))
    c.in_default.is)

pub fault_of-requires : goal.fault_of-requires
fault_of-requires c = sym c.is_mpv.ensures ∙ not-false _ (passed_by _ _ c.in_ok-refuse_if.ensures)

pub returns : goal.returns
returns c =
    c.fault_of.ensures
    ∙ sym (check-read c.args.read c.args.m _ (sym c.is_mpv.ensures ∙ not-false _ (passed_by _ _ c.in_ok-refuse_if.ensures))
    c.in-Some.is)
