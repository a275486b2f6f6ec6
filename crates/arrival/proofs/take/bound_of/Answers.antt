use Rattle.arrival.proofs.take.bound_of.Goals as goal

pub returns : goal.returns
returns c = rw (c.held_to.ensures, c.away_of.ensures)
