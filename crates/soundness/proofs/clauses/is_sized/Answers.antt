use Rattle.soundness.proofs.clauses.is_sized.Goals as goal

pub returns : goal.returns
returns c = rw c.is_legal.ensures
