use Rattle.lines.specs.Lines.{report_line}
use Rattle.lines.proofs.text.Text.report.Goals as goal

pub line-requires : goal.line-requires
unfolding report_line
line-requires c = rw c.fields_of.ensures c.requires

pub returns : goal.returns
unfolding report_line
returns c = rw (← c.fields_of.ensures) c.line.ensures
