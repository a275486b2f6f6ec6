use Rattle.book.specs.Look.{cost}
use Rattle.book.proofs.look.cost_of.Goals as goal

pub returns-then-sell : goal.returns-then-sell
unfolding cost
returns-then-sell c = rw c.if-sell.true c.saturating_sub.ensures

pub returns-else-sell : goal.returns-else-sell
unfolding cost
returns-else-sell c = rw c.if-sell.false
