use mathlib.Core.Bool.{Bool, ◌&&◌}
use mathlib.Core.Path.{refl, sym, ap, ◌∙◌}
use Rattle.packing.proofs.codec.write.Goals as goal

pub returns-then-fits-admitted : goal.returns-then-fits-admitted
returns-then-fits-admitted c =
    record {
      fit = sym c.if-fits-admitted.true ∙ ap (λ (b : Bool). b && c.args.admitted) c.fits-fits.ensures;
      written = c.write_all.ensures;
    }

pub returns-else-fits-admitted : goal.returns-else-fits-admitted
returns-else-fits-admitted c = record { fit = sym c.if-fits-admitted.false ∙ ap (λ (b : Bool). b && c.args.admitted) c.fits-fits.ensures; written = refl }
