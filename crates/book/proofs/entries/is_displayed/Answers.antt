use Rattle.book.proofs.entries.is_displayed.Goals as goal

pub returns : goal.returns
returns c = rw c.display_of.ensures
