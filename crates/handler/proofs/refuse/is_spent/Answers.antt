use Rattle.handler.proofs.refuse.is_spent.Goals as goal

pub returns : goal.returns
returns c = rw c.is_entering.ensures
