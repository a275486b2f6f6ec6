use mathlib.Core.Path.{◌∙◌}
use Rattle.packing.proofs.CodecLaws.{pack-row}
use Rattle.packing.proofs.codec.pack.Goals as goal

pub returns : goal.returns
returns g c =
    let t = g.met.T.Packs.tabled in
    pack-row g.T.Packs.codec _ _ (c.WIDTHS.ensures ∙ t.widths) t.size c.args.thing _ _ c.code-xs.ensures c.is_admitted.ensures _ c.write_row.ensures
