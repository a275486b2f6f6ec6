use Rattle.book.proofs.entries.is_quote.Goals as goal

pub returns : goal.returns
returns c = rw (c.is_quoting.ensures, c.kind_of.ensures)
