use Rattle.handler.proofs.HandleLaws.{terms-enters, terms-away, terms-under, terms-phase, terms-same}
use mathlib.Core.Path.{sym, ◌∙◌}
use Rattle.handler.proofs.handle.terms_after.Goals as goal

pub returns-then-is_entering : goal.returns-then-is_entering
returns-then-is_entering c = terms-enters c.args.t c.args.a (sym c.is_entering.ensures ∙ c.if-is_entering.true)

pub returns-then-a-eq-AWAY : goal.returns-then-a-eq-AWAY
returns-then-a-eq-AWAY c = terms-away c.args.t c.args.a c.if-a-eq-AWAY.true

pub returns-then-a-eq-UNDERLYING : goal.returns-then-a-eq-UNDERLYING
returns-then-a-eq-UNDERLYING c = terms-under c.args.t c.args.a c.if-a-eq-UNDERLYING.true

pub returns-then-a-eq-PHASE : goal.returns-then-a-eq-PHASE
returns-then-a-eq-PHASE c = terms-phase c.args.t c.args.a c.if-a-eq-PHASE.true

pub returns : goal.returns
returns c =
    terms-same c.args.t c.args.a (sym c.is_entering.ensures ∙ c.if-is_entering.false) c.if-a-eq-AWAY.false c.if-a-eq-UNDERLYING.false
    c.if-a-eq-PHASE.false
