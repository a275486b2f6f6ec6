use Rattle.arrival.proofs.EnterLaws.{finish-none}
use Rattle.arrival.proofs.arrive.finish.Goals as goal

pub returns-then-left-eq0-clause-told : goal.returns-then-left-eq0-clause-told
returns-then-left-eq0-clause-told c = finish-none c.requires c.if-left-eq0.true
