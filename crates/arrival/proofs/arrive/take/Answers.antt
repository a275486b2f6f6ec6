use Rattle.arrival.proofs.EnteredLaws.{take_none, take-asks, take-took}
use Rattle.arrival.proofs.arrive.take.Goals as goal

pub returns-then-not-trading-clause-told : goal.returns-then-not-trading-clause-told
returns-then-not-trading-clause-told c = take_none c.requires c.if-not-trading.true

pub take_all-requires : goal.take_all-requires
take_all-requires c = take-asks c.requires _ _ c.if-not-trading.false c.market_of.ensures c.bound_of.ensures

pub returns-clause-told : goal.returns-clause-told
returns-clause-told c =
    take-took c.requires _ _ c.if-not-trading.false c.market_of.ensures c.bound_of.ensures
    c.take_all.ensures.told
