use Rattle.handler.proofs.refuse.is_not_open.Goals as goal

pub returns : goal.returns
returns c = rw c.is_entering.ensures
