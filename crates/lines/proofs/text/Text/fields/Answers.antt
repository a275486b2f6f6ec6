use Prim.Native.Nat.{ℕ, ◌+◌}
use mathlib.Core.List.{List, ◌∷◌}
use native.Mathlib.Omega.{arith}
use lib.ListN.{drop, get_or}
use Rattle.lines.specs.Decimal.{decimal}
use Rattle.lines.specs.Lines.{space, spaced}
use Rattle.lines.proofs.TextLaws.{putting-turn, putting-room}
use Rattle.lines.proofs.LineLaws.{next_field}
use Rattle.lines.proofs.text.Text.fields.Goals as goal

pub field-requires : goal.field-requires
field-requires c =
    let f : List ℕ = c.args.fields.now in
    let i : ℕ = c.loop-field.field-index in
    putting-room (space ∷ decimal (get_or f i 0)) (spaced (drop (i + 1) f)) (next_field f i (omega arith))
    c.loop-field.invariant
    c.requires

pub loop-field-preserved : goal.loop-field-preserved
loop-field-preserved c =
    let l = c.loop-field in
    let f : List ℕ = c.args.fields.now in
    putting-turn (space ∷ decimal (get_or f l.field-index 0)) (spaced (drop (l.field-index + 1) f)) (next_field f l.field-index (omega arith))
    l.invariant
    c.field.ensures
