use Rattle.std.proofs.Common.{rules}
use Rattle.settling_theory.specs.Settle.{easing}
use Rattle.settling.proofs.ease.first_easing.Goals as goal

pub returns : goal.returns
returns c = c.lowest.ensures (easing c.args.market) (λ e b met. search rules)
