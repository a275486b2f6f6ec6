use mathlib.Core.Path.{◌∙◌}
use Rattle.why.proofs.AcceptLaws.{faced-in}
use Rattle.why.proofs.figures.facing_in.Goals as goal

pub unwrap-check-requires : goal.unwrap-check-requires
unwrap-check-requires c = c.check_series.ensures.verdict ∙ c.requires

pub returns : goal.returns
returns c = faced-in c.args.s c.args.e (rw c.unwrap-check.ensures at c.check_series.ensures) _ c.facing_of.ensures
