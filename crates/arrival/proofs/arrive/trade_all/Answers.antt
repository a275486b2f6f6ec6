use Rattle.arrival.proofs.EnteredLaws.{enter-replaces, enter-takes, enter-left}
use Rattle.arrival.proofs.arrive.trade_all.Goals as goal

pub replace-c-requires : goal.replace-c-requires
replace-c-requires c = enter-replaces c.requires

pub take-requires : goal.take-requires
take-requires c = enter-takes c.requires c.replace-c.ensures.told

pub returns : goal.returns
returns c = enter-left c.requires c.replace-c.ensures.told c.take.ensures.told
