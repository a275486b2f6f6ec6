use Prim.Native.Nat.{ℕ}
use mathlib.Core.List.{List, [], ◌∷◌, ◌++◌}
use Rattle.lines.specs.Decimal.{decimal}
use Rattle.lines.specs.Lines.{spaced, field_line}
use Rattle.lines.specs.declared.text.Text.{Text}
use Rattle.lines.specs.Buffer.{HasRoom}
use Rattle.lines.proofs.TextLaws.{puts_then, front, behind}
use Rattle.lines.proofs.text.Text.line.Goals as goal

-- what finds room for the whole line does so for what stands before the line's end
room-fields : (t : Text) (number : ℕ) (fields : List ℕ) → HasRoom t (field_line number fields) → HasRoom t (decimal number ++ spaced fields)
unfolding field_line
room-fields t number fields h = front t (decimal number ++ spaced fields) (10 ∷ []) h

pub number-requires : goal.number-requires
number-requires c =
    let a = c.args in
    front a.self.now (decimal a.number) (spaced a.fields.now) (room-fields a.self.now a.number a.fields.now c.requires)

pub fields-requires : goal.fields-requires
fields-requires c =
    let a = c.args in
    behind (spaced a.fields.now) c.number.ensures (room-fields a.self.now a.number a.fields.now c.requires)

pub byte-requires : goal.byte-requires
unfolding field_line
byte-requires c = behind (10 ∷ []) (puts_then c.number.ensures c.fields.ensures) c.requires

pub returns : goal.returns
unfolding field_line
returns c = puts_then (puts_then c.number.ensures c.fields.ensures) c.byte.ensures
