use mathlib.Core.List.{List}
use mathlib.Core.Path.{sym, subst, ◌∙◌}
use native.Mathlib.Omega.{arith}
use Prim.Native.Nat.{ℕ}
use Rattle.std.specs.Prelude.{None, Some}
use Rattle.bits.specs.Fields.{Fit}
use Rattle.packing.specs.Codec.{Layout}
use Rattle.packing.proofs.CodecLaws.{read-told, read-fit}
use Rattle.packing.proofs.codec.unpack.Goals as goal

pub WIDTHS-requires : goal.WIDTHS-requires
WIDTHS-requires g c = omega (arith, g.met.T.Packs.tabled.few)

pub read_row-requires : goal.read_row-requires
read_row-requires g c =
    let t = g.met.T.Packs.tabled in
    (omega (arith, t.few), (omega (arith, t.few), subst (λ (ws : List ℕ). Layout ws g.row.N g.row.SIZE) (sym c.WIDTHS.ensures) t.layout))

pub returns-in_err-read_row : goal.returns-in_err-read_row
returns-in_err-read_row g c =
    let t = g.met.T.Packs.tabled in
    read-told g.T.Packs.codec _ _ (c.WIDTHS.ensures ∙ t.widths) t.size c.args.bytes.now None (sym c.read_row.ensures ∙ c.in_err-read_row.was)
    _ c.from_residual.ensures

pub thing_of-requires : goal.thing_of-requires
thing_of-requires g c = (
  omega (arith, g.met.T.Packs.tabled.few),
  subst (λ (ws : List ℕ). Fit ws c.in_ok-read_row.field-0) c.WIDTHS.ensures (read-fit c.args.bytes.now _ _ _ (sym c.read_row.ensures ∙ c.in_ok-read_row.was)),
)

pub returns : goal.returns
returns g c =
    let t = g.met.T.Packs.tabled in
    read-told g.T.Packs.codec _ _ (c.WIDTHS.ensures ∙ t.widths) t.size c.args.bytes.now (Some c.in_ok-read_row.field-0)
    (sym c.read_row.ensures ∙ c.in_ok-read_row.was) _ c.thing_of.ensures
