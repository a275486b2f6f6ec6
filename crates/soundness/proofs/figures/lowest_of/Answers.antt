use borrow.Author.Tests.{eq-eqb, ne_eqb}
use Rattle.soundness.specs.Summary.{offer_of}
use Rattle.soundness.proofs.figures.lowest_of.Goals as goal

pub returns-then-p-eq-NO_OFFER : goal.returns-then-p-eq-NO_OFFER
unfolding offer_of
returns-then-p-eq-NO_OFFER c = rw (eq-eqb _ _ c.if-p-eq-NO_OFFER.true)

pub returns-else-p-eq-NO_OFFER : goal.returns-else-p-eq-NO_OFFER
unfolding offer_of
returns-else-p-eq-NO_OFFER c = rw (ne_eqb _ _ c.if-p-eq-NO_OFFER.false)
