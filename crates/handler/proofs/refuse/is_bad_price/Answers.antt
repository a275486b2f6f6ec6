use mathlib.Core.Path.{sym, ◌∙◌}
use borrow.Author.Tests.{ne_eqb}
use Rattle.kinds.proofs.KindLaws.{stays_out}
use mathlib.Core.Path.{refl}
use Rattle.handler.proofs.refuse.is_bad_price.Goals as goal

pub returns-then-is_entering : goal.returns-then-is_entering
returns-then-is_entering c = rw (sym c.is_entering.ensures ∙ c.if-is_entering.true, c.is_legal.ensures)

pub returns-then-a-eq-AWAY : goal.returns-then-a-eq-AWAY
returns-then-a-eq-AWAY c = rw (c.if-a-eq-AWAY.true, stays_out 9 refl, c.is_none_or_legal.ensures, c.is_none_or_legal-then-a-eq-AWAY.ensures)

pub returns-then-a-eq-UNDERLYING : goal.returns-then-a-eq-UNDERLYING
returns-then-a-eq-UNDERLYING c = rw (c.if-a-eq-UNDERLYING.true, stays_out 10 refl)

pub returns : goal.returns
returns c = rw (sym c.is_entering.ensures ∙ c.if-is_entering.false, ne_eqb _ _ c.if-a-eq-AWAY.false, ne_eqb _ _ c.if-a-eq-UNDERLYING.false)
