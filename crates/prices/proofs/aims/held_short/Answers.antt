use Rattle.prices.proofs.StepLaws.{legal-is, is-none-or-legal}
use borrow.Author.Tests.{ne_eqb}
use Rattle.prices.proofs.aims.held_short.Goals as goal

pub one_back-requires : goal.one_back-requires
one_back-requires c = (c.requires.0, legal-is ((is-none-or-legal _ _ c.requires.1).legal (ne_eqb _ 0 c.if-x-eq0.false)))
