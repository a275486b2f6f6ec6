use Rattle.arrival.specs.Take.{offered}
use Rattle.kinds.specs.Kinds.{minds}
use Rattle.book.specs.Shape.{entries_of}
use mathlib.Core.Path.{sym, ap, ◌∙◌}
use Rattle.arrival.proofs.EnterLaws.{facts-of, trades-none, trades-far, trades-now}
use Rattle.arrival.proofs.arrive.is_trading.Goals as goal

pub returns-then-is_minding : goal.returns-then-is_minding
returns-then-is_minding c =
    trades-none c.args.t c.args.e (entries_of c.args.b)
    (ap minds (sym c.kind_of.ensures) ∙ sym c.is_minding.ensures ∙ c.if-is_minding.true)

pub returns-then-not-is_offered : goal.returns-then-not-is_offered
returns-then-not-is_offered c =
    trades-far c.args.t c.args.e (entries_of c.args.b) (facts-of c.requires.arriving).1 _ _ c.market_of.ensures
    c.bound_of-cap.ensures
    (ap (offered c.args.e.sell _) (sym c.requires.faces.contra) ∙ sym c.is_offered.ensures ∙ c.if-not-is_offered.true)

pub returns : goal.returns
returns c =
    c.is_some.ensures
    ∙ trades-now c.args.t c.args.e (entries_of c.args.b) _ _ c.next_trade.result
    (ap minds (sym c.kind_of.ensures) ∙ sym c.is_minding.ensures ∙ c.if-is_minding.false) c.market_of.ensures
    c.bound_of-cap.ensures c.next_trade.ensures
