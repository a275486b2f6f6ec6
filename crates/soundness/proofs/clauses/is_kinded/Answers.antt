use Rattle.soundness.proofs.clauses.is_kinded.Goals as goal

pub returns : goal.returns
returns c = rw (c.is_entering.ensures, c.kind_of.ensures)
