use Rattle.arrival.proofs.EnteredLaws.{enter-replaces, enter-takes, enter-finishes, enter-done}
use Rattle.arrival.proofs.arrive.enter.Goals as goal

pub replace-c-requires : goal.replace-c-requires
replace-c-requires c = enter-replaces c.requires

pub take-d-requires : goal.take-d-requires
take-d-requires c = enter-takes c.requires c.replace-c.ensures.told

pub finish-requires : goal.finish-requires
finish-requires c = enter-finishes c.requires c.replace-c.ensures.told c.take-d.ensures.told

pub returns-clause-told : goal.returns-clause-told
returns-clause-told c = enter-done c.requires c.replace-c.ensures.told c.take-d.ensures.told c.finish.ensures.told
