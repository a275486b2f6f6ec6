use Rattle.arrival.proofs.post.pricing_of.Goals as goal

pub returns-then-is_sliding : goal.returns-then-is_sliding
returns-then-is_sliding c = rw (← c.is_sliding.ensures, c.if-is_sliding.true)

pub returns-then-is_dark : goal.returns-then-is_dark
returns-then-is_dark c = rw (← c.is_sliding.ensures, c.if-is_sliding.false, ← c.is_dark.ensures, c.if-is_dark.true)

pub returns : goal.returns
returns c = rw (← c.is_sliding.ensures, c.if-is_sliding.false, ← c.is_dark.ensures, c.if-is_dark.false)
