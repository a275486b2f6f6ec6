use Rattle.std.specs.Prelude.{Some}
use Rattle.packing.specs.Room.{read_back}
use Rattle.lines.proofs.TextLaws.{PuttingLines}
use Rattle.transcript.specs.WhyLines.{why_lines}
use Rattle.transcript.proofs.WhyLaws.{whys_from}
use Rattle.transcript.proofs.why_lines.put_whys.Given as goal

abbrev pub invariant-loop-place : goal.invariant-loop-place
invariant-loop-place l =
    PuttingLines l.initial.text l.place (why_lines l.number l.series (Some l.event) 0 (read_back l.count l.room)) l.text
    (whys_from l.number l.series (Some l.event) l.room l.count l.place)
