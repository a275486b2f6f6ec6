use Rattle.lines.proofs.TextLaws.{PuttingLines}
use Rattle.board.specs.Board.{board_text}
use Rattle.board.proofs.BoardLaws.{left_from}
use Rattle.board.proofs.put_entries.Given as goal

abbrev pub invariant-loop-i : goal.invariant-loop-i
invariant-loop-i l = PuttingLines l.initial.text l.i (board_text l.number l.all) l.text (left_from l.number l.all l.i)
