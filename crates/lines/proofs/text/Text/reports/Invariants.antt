use Rattle.packing.specs.Room.{read_back}
use Rattle.lines.specs.Lines.{report_lines}
use Rattle.lines.proofs.TextLaws.{Putting}
use Rattle.lines.proofs.LineLaws.{left_from}
use Rattle.lines.proofs.text.Text.reports.Given as goal

abbrev pub invariant-loop-k : goal.invariant-loop-k
invariant-loop-k l = Putting l.initial.self (report_lines l.number (read_back l.count l.room)) l.self (report_lines l.number (left_from l.room l.count l.k))
