use Rattle.arrival.proofs.take.is_shown_only.Goals as goal

pub returns : goal.returns
returns c = rw (c.is_light.ensures, c.kind_of.ensures)
