use mathlib.Core.List.{[], ◌∷◌}
use native.Mathlib.Omega.{arith}
use borrow.Author.Rules.{rules}
use Rattle.lines.specs.Lines.{FitWord}
use Rattle.lines.proofs.LineLaws.{line-short}
use Rattle.lines.proofs.TextLaws.{one-line}
use Rattle.transcript.proofs.why_lines.put_reason.Goals as goal

pub line-requires : goal.line-requires
line-requires c =
    let a = c.args in
    let fit : FitWord (a.place ∷ a.reason.rule ∷ a.reason.first ∷ a.reason.second ∷ []) = search rules in
    omega (arith, line-short a.number (a.place ∷ a.reason.rule ∷ a.reason.first ∷ a.reason.second ∷ []) c.ranges.number.fits (omega arith) fit, c.requires)

pub returns : goal.returns
returns c =
    let a = c.args in
    let numbers = a.place ∷ a.reason.rule ∷ a.reason.first ∷ a.reason.second ∷ [] in
    let fit : FitWord numbers = search rules in
    one-line (line-short a.number numbers c.ranges.number.fits (omega arith) fit) c.line.ensures
