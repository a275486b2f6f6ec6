use Rattle.std.proofs.Common.{rules}
use Rattle.book.specs.Look.{lowest}
use Rattle.book.proofs.LookLaws.{number}
use Rattle.book.proofs.look.lowest.Goals as goal

pub returns : goal.returns
unfolding lowest
returns g c = λ test says. c.least_of.ensures test number (λ e k met. search rules)
