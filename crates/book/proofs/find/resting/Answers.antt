use Rattle.book.specs.Shape.{entries_of}
use mathlib.Core.Path.{refl}
use Rattle.book.proofs.find.resting.Goals as goal

pub returns : goal.returns
unfolding entries_of
returns c = refl
