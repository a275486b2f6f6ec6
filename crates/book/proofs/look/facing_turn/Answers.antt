use Rattle.book.specs.Entries.{against}
use mathlib.Core.Bool.{and-true}
use Rattle.book.proofs.look.facing_turn.Goals as goal

pub returns-then-is_eligible : goal.returns-then-is_eligible
returns-then-is_eligible c = rw (← and-true (against c.args.sell c.args.e), ← c.is_eligible.ensures, c.if-is_eligible.true) c.nearer_of.ensures

pub returns : goal.returns
returns c = rw (← and-true (against c.args.sell c.args.e), ← c.is_eligible.ensures, c.if-is_eligible.false)
