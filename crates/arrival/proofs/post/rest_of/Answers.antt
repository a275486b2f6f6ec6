use Rattle.arrival.proofs.post.rest_of.Goals as goal

pub returns : goal.returns
returns c = rw (c.pricing_of-pricing.ensures, c.kind_of.ensures)
