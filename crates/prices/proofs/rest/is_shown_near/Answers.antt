use borrow.Author.Tests.{eq-eqb, ne_eqb}
use Rattle.prices.proofs.StepLaws.{is-mpv, is-legal}
use Rattle.prices.proofs.NearLaws.{near-is}
use Rattle.prices.proofs.rest.is_shown_near.Goals as goal

pub returns-then-display-working : goal.returns-then-display-working
returns-then-display-working c =
    rw (← near-is c.args.sell c.args.display (is-mpv _ c.requires.0) (is-legal _ _ c.requires.1), eq-eqb _ _ c.if-display-working.true)

pub returns : goal.returns
returns c =
    rw (
      ← near-is c.args.sell c.args.display (is-mpv _ c.requires.0) (is-legal _ _ c.requires.1),
      ne_eqb _ _ c.if-display-working.false,
      c.is_reaching.ensures,
      c.last_price.ensures,
      c.one_back-step.ensures,
    )
