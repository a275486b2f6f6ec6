use mathlib.Core.Path.{◌∙◌}
use borrow.Author.Rules.{rules}
use Rattle.packing.specs.Codec.{packs}
use Rattle.soundness.proofs.StdLaws.{all-std}
use Rattle.series_buffer.specs.Entry.{entries}
use Rattle.series_buffer.proofs.places.all_fit.Goals as goal

pub returns : goal.returns
returns c = (c.each_fits.ensures ∙ all-std (packs entries) c.args.places, search rules)
