use Prim.Native.Nat.{ℕ, ◌^◌, ◌<◌}
use mathlib.Core.List.{◌∷◌, ◌++◌}
use native.Mathlib.Omega.{arith}
use Rattle.lines.specs.declared.text.Text.{Text}
use Rattle.lines.specs.Decimal.{decimal}
use Rattle.lines.specs.Lines.{space}
use Rattle.lines.specs.Buffer.{HasRoom, HasLines}
use Rattle.lines.proofs.TextLaws.{puts_then, front, behind, one-line}
use Rattle.transcript.specs.WhyLines.{none_word, none_line}
use Rattle.transcript.proofs.WhyLaws.{none-short}
use Rattle.transcript.proofs.why_lines.put_none.Goals as goal

-- what has room for a line has it for this one
room-none : (t : Text) (number place : ℕ) → number < 2 ^ 64 → place < 2 ^ 32 → HasLines t 1
    → HasRoom t (decimal number ++ (space ∷ decimal place) ++ none_word)
unfolding none_line
room-none t number place n p h = omega (arith, none-short number place n p, h)

pub number-requires : goal.number-requires
number-requires c =
    let a = c.args in
    let t = a.text.now in
    front t (decimal a.number) (space ∷ decimal a.place)
    (front t (decimal a.number ++ (space ∷ decimal a.place)) none_word (room-none t a.number a.place c.ranges.number.fits c.ranges.place.fits c.requires))

pub field-requires : goal.field-requires
field-requires c =
    let a = c.args in
    let t = a.text.now in
    behind (space ∷ decimal a.place) c.number.ensures
    (front t (decimal a.number ++ (space ∷ decimal a.place)) none_word (room-none t a.number a.place c.ranges.number.fits c.ranges.place.fits c.requires))

pub word-requires : goal.word-requires
word-requires c =
    let a = c.args in
    behind none_word (puts_then c.number.ensures c.field.ensures)
    (room-none a.text.now a.number a.place c.ranges.number.fits c.ranges.place.fits c.requires)

pub returns : goal.returns
unfolding none_line
returns c =
    one-line (none-short c.args.number c.args.place c.ranges.number.fits c.ranges.place.fits)
    (puts_then (puts_then c.number.ensures c.field.ensures) c.word.ensures)
