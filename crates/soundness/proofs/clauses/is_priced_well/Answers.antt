use Rattle.soundness_theory.specs.Sound.{priced_as}
use Rattle.soundness.proofs.clauses.is_priced_well.Goals as goal

pub returns-in-Fixed : goal.returns-in-Fixed
unfolding priced_as
returns-in-Fixed c = rw (c.is_dark.ensures, c.is_sliding.ensures, c.in-Fixed.is, c.kind_of-kind.ensures)

pub returns-in-Dark : goal.returns-in-Dark
unfolding priced_as
returns-in-Dark c = rw (c.is_dark-in-Dark.ensures, c.in-Dark.is, c.kind_of-kind.ensures)

pub returns-in-Sliding : goal.returns-in-Sliding
unfolding priced_as
returns-in-Sliding c = rw (c.is_slide.ensures, c.is_sliding-in-Sliding.ensures, c.in-Sliding.is, c.kind_of-kind.ensures)
