use Rattle.prices.specs.Post.{stopped}
use mathlib.Core.Path.{refl, ◌∙◌}
use Rattle.arrival.specs.Post.{stop_for}
use Rattle.arrival.proofs.EnterLaws.{prices-known}
use Rattle.arrival.proofs.post.stop_for.Goals as goal

pub returns : goal.returns
unfolding stop_for stopped
returns c =
    c.stop_of.ensures
    ∙ rw (c.interest_of.ensures, c.posting_of.ensures, c.prices_of-p.ensures, prices-known c.requires) refl
