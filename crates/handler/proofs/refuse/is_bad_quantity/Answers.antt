use mathlib.Core.Path.{refl, sym, ◌∙◌}
use borrow.Author.Tests.{ne_eqb}
use Rattle.kinds.proofs.KindLaws.{stays_out}
use Rattle.handler.proofs.refuse.is_bad_quantity.Goals as goal

pub returns-then-is_entering : goal.returns-then-is_entering
returns-then-is_entering c = rw (sym c.is_entering.ensures ∙ c.if-is_entering.true, c.is_between.ensures)

pub returns-then-a-eq-PHASE : goal.returns-then-a-eq-PHASE
returns-then-a-eq-PHASE c = rw (c.if-a-eq-PHASE.true, stays_out 11 refl)

pub returns : goal.returns
returns c = rw (sym c.is_entering.ensures ∙ c.if-is_entering.false, ne_eqb _ _ c.if-a-eq-PHASE.false)
