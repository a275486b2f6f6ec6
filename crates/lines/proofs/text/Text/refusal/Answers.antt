use mathlib.Core.List.{[], ◌∷◌, ◌++◌}
use Prim.Native.Nat.{ℕ}
use Rattle.lines.specs.Decimal.{decimal}
use Rattle.lines.specs.Lines.{refused_word, refusal_line}
use Rattle.lines.specs.declared.text.Text.{Text}
use Rattle.lines.specs.Buffer.{HasRoom}
use Rattle.lines.proofs.TextLaws.{puts_then, front, behind}
use Rattle.lines.proofs.text.Text.refusal.Goals as goal

-- what finds room for the whole line does so for what stands before the line's end, and before the refusal
room-refusal : (t : Text) (number refusal : ℕ) → HasRoom t (refusal_line number refusal) → HasRoom t (decimal number ++ refused_word ++ decimal refusal)
unfolding refusal_line
room-refusal t number refusal h = front t (decimal number ++ refused_word ++ decimal refusal) (10 ∷ []) h

room-word : (t : Text) (number refusal : ℕ) → HasRoom t (refusal_line number refusal) → HasRoom t (decimal number ++ refused_word)
room-word t number refusal h = front t (decimal number ++ refused_word) (decimal refusal) (room-refusal t number refusal h)

pub number-requires : goal.number-requires
number-requires c =
    let a = c.args in
    front a.self.now (decimal a.number) refused_word (room-word a.self.now a.number a.refusal c.requires)

pub word-requires : goal.word-requires
word-requires c =
    let a = c.args in
    behind refused_word c.number.ensures (room-word a.self.now a.number a.refusal c.requires)

pub number-requires-2 : goal.number-requires-2
number-requires-2 c =
    let a = c.args in
    rw c.from.ensures (behind (decimal a.refusal) (puts_then c.number.ensures c.word.ensures) (room-refusal a.self.now a.number a.refusal c.requires))

pub byte-requires : goal.byte-requires
unfolding refusal_line
byte-requires c =
    behind (10 ∷ []) (puts_then (puts_then c.number.ensures c.word.ensures) (rw c.from.ensures at c.number-2.ensures)) c.requires

pub returns : goal.returns
unfolding refusal_line
returns c =
    puts_then (puts_then (puts_then c.number.ensures c.word.ensures) (rw c.from.ensures at c.number-2.ensures)) c.byte.ensures
