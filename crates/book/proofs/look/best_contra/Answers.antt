use Rattle.std.proofs.Common.{rules}
use Rattle.book.specs.Look.{eligible, priority, best_contra}
use Rattle.book.proofs.look.best_contra.Goals as goal

pub returns : goal.returns
unfolding best_contra
returns c = c.least_of.ensures (eligible c.args.sell c.args.shown) (priority c.args.sell) (λ e k met. search rules)
