use mathlib.Core.Path.{◌∙◌}
use Rattle.packing.proofs.CodecLaws.{packs-told}
use Rattle.packing.proofs.codec.fits.Goals as goal

pub returns : goal.returns
returns g c =
    let t = g.met.T.Packs.tabled in
    packs-told g.T.Packs.codec _ (c.WIDTHS.ensures ∙ t.widths) c.args.thing _ _ _ c.code-xs.ensures c.fits.ensures c.is_admitted.ensures
