use Rattle.prices.specs.Protect.{protection}
use mathlib.Core.Path.{refl, sym, ◌∙◌}
use Rattle.arrival.proofs.arrive.protection_for.Goals as goal

pub returns : goal.returns
unfolding protection
returns c = rw (sym c.is_quote.ensures ∙ c.if-not-is_quote.false) (c.protection_of.ensures ∙ rw c.guard_of.ensures refl)
