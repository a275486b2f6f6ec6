use mathlib.Core.Path.{ap, ap₂, ◌∙◌}
use mathlib.Core.Bool.{Bool}
use Rattle.prices.specs.declared.Market.{Market}
use Rattle.prices.specs.Side.{away, nearer}
use Rattle.handler.proofs.HandleLaws.{same-facing}
use Rattle.handler.proofs.handle.facing_of.Goals as goal

pub returns : goal.returns
returns c =
    let s : Bool = c.args.sell in
    same-facing c.price_faced.ensures
    (c.nearer_of.ensures
    ∙ ap₂ (nearer s) (c.away_of-away.ensures ∙ ap (λ (k : Market). away k s) c.market_of.ensures)
    c.price_shown-shown.ensures)
