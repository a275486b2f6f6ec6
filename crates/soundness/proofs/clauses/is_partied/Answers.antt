use Rattle.soundness.proofs.clauses.is_partied.Goals as goal

pub returns : goal.returns
returns c = rw c.is_quote.ensures
