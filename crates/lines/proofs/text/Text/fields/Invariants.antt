use lib.ListN.{drop}
use Rattle.lines.specs.Lines.{spaced}
use Rattle.lines.proofs.TextLaws.{Putting}
use Rattle.lines.proofs.text.Text.fields.Given as goal

abbrev pub invariant-loop-field : goal.invariant-loop-field
invariant-loop-field l = Putting l.initial.self (spaced l.fields) l.self (spaced (drop l.field-index l.fields))
