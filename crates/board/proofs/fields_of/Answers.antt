use borrow.Author.Rules.{rules}
use Rattle.board.proofs.fields_of.Goals as goal

pub returns : goal.returns
returns c = (cc, search rules)
