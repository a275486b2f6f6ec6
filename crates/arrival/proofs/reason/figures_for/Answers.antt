use mathlib.Core.Path.{◌∙◌}
use native.Mathlib.Omega.{arith}
use Rattle.book.specs.Shape.{entries_of}
use Rattle.arrival.proofs.EnterLaws.{prices-known}
use Rattle.arrival.proofs.FiguresLaws.{figures-bar, figures-stop}
use Rattle.arrival.proofs.reason.figures_for.Goals as goal

pub returns-then-rule-ge24 : goal.returns-then-rule-ge24
returns-then-rule-ge24 c =
    c.bar_figures.ensures
    ∙ rw c.guard_of.ensures
    (figures-bar c.args.t c.args.e c.args.f.national (entries_of c.args.b) c.args.rule c.if-rule-ge24.true)

pub returns : goal.returns
returns c =
    c.stop_figures.ensures c.args.e.kind
    ∙ rw (c.interest_of.ensures, c.posting_of.ensures, c.prices_of-p.ensures, prices-known c.requires.posts)
    (figures-stop c.args.t c.args.e c.args.f.national (entries_of c.args.b) c.args.rule
    (omega (arith, c.if-rule-ge24.false)))
