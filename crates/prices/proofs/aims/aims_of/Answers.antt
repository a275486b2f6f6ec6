use Rattle.prices.proofs.AimLaws.{if-any-minded}
use Rattle.prices.proofs.StepLaws.{is-none-or-legal, if-any-is}
use Rattle.prices.proofs.aims.aims_of.Goals as goal

pub held_short-display-requires : goal.held_short-display-requires
held_short-display-requires c = (c.requires.step, rw c.contra_minded-c.ensures (if-any-is (if-any-minded _ (is-none-or-legal _ _ c.requires.contra))))

pub held_short-working-requires : goal.held_short-working-requires
held_short-working-requires c = (c.requires.step, rw c.contra_minded-c.ensures (if-any-is (if-any-minded _ (is-none-or-legal _ _ c.requires.contra))))
