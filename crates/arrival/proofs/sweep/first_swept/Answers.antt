use Rattle.std.proofs.Common.{rules}
use Rattle.arrival.specs.Cancel.{swept}
use Rattle.arrival.proofs.sweep.first_swept.Goals as goal

pub returns : goal.returns
returns c = c.lowest.ensures (swept c.args.phase) (λ e b met. search rules)
