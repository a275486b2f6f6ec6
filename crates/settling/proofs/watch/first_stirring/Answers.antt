use Rattle.std.proofs.Common.{rules}
use Rattle.settling.specs.Turns.{stirring_by}
use Rattle.settling.proofs.watch.first_stirring.Goals as goal

pub returns : goal.returns
returns c = c.lowest.ensures (stirring_by c.args.market c.args.front) (λ e b met. search rules)
