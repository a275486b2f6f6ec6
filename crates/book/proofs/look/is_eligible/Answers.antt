use Rattle.book.proofs.look.is_eligible.Goals as goal

pub returns : goal.returns
returns c = rw (c.is_displayed.ensures, c.is_against.ensures)
