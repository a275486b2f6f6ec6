use Rattle.book.proofs.entries.is_quote_of.Goals as goal

pub returns : goal.returns
returns c = rw c.is_quote.ensures
