use mathlib.Core.Path.{refl}
use Rattle.arrival.proofs.take.is_offered.Goals as goal

pub returns : goal.returns
returns c = rw c.is_reaching.ensures refl
