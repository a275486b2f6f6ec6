use Rattle.book.proofs.ChangeLaws.{takes_all, takes-some}
use Rattle.book.specs.Shape.{book_of}
use mathlib.Core.Path.{ap, ◌∙◌}
use Rattle.book.proofs.change.taken.Goals as goal

pub returns-then-e-quantity : goal.returns-then-e-quantity
returns-then-e-quantity c = c.removed.ensures ∙ ap book_of (takes_all c.args.b c.args.i c.args.quantity c.requires c.if-e-quantity.true)

pub returns : goal.returns
returns c = c.standing.ensures ∙ takes-some c.args.b c.args.i c.args.quantity c.requires c.if-e-quantity.false
