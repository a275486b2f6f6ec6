use mathlib.Core.Path.{◌∙◌}
use Rattle.packing.proofs.CodecLaws.{written-told}
use Rattle.packing.proofs.codec.write_over.Goals as goal

pub returns : goal.returns
returns g c =
    let t = g.met.T.Packs.tabled in
    c.write_all.ensures
    ∙ written-told g.T.Packs.codec _ _ (c.WIDTHS.ensures ∙ t.widths) (c.requires ∙ t.size) c.args.thing _ c.code-xs.ensures
