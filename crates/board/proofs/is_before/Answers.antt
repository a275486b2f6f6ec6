use mathlib.Core.Path.{refl}
use Rattle.board.specs.Board.{before}
use Rattle.board.proofs.is_before.Goals as goal

pub returns : goal.returns
unfolding before
returns c = rw (c.key_of-first.ensures, c.key_of-own.ensures) refl
