use Rattle.book.specs.Shape.{book_of}
use Rattle.book.proofs.change.empty.Goals as goal

pub returns : goal.returns
unfolding book_of
returns c = rw c.zero_entry-unused.ensures
