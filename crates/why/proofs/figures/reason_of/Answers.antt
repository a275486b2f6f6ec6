use mathlib.Core.Path.{sym, ap, ◌∙◌}
use Rattle.why.specs.Why.{given, reason_for}
use Rattle.why.proofs.figures.reason_of.Goals as goal

pub returns-in-Noted : goal.returns-in-Noted
returns-in-Noted c = sym (ap (reason_for c.args.s c.args.a) c.in-Noted.is)

pub returns-in-Rejected : goal.returns-in-Rejected
returns-in-Rejected c =
    c.given_with.ensures
    ∙ ap (given _) c.found_figures.ensures
    ∙ sym (ap (reason_for c.args.s c.args.a) c.in-Rejected.is)

pub returns-in-Traded : goal.returns-in-Traded
returns-in-Traded c = sym (ap (reason_for c.args.s c.args.a) c.in-Traded.is)

pub returns-in-Rested : goal.returns-in-Rested
returns-in-Rested c = sym (ap (reason_for c.args.s c.args.a) c.in-Rested.is)

pub returns-in-Repriced : goal.returns-in-Repriced
returns-in-Repriced c = sym (ap (reason_for c.args.s c.args.a) c.in-Repriced.is)

pub returns-in-Cancelled : goal.returns-in-Cancelled
returns-in-Cancelled c =
    c.given_with-in-Cancelled.ensures
    ∙ ap (given _) c.left_figures.ensures
    ∙ sym (ap (reason_for c.args.s c.args.a) c.in-Cancelled.is)
