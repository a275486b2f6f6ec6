use Rattle.std.proofs.Common.{rules}
use Rattle.std.proofs.lemmas.Iterator.{YieldsList-from_slice}
use Rattle.std.proofs.lemmas.Iterator.Consumers.{fold_from_yields_List}
use Rattle.book.specs.Look.{front_turn}
use Rattle.book.specs.Shape.{entries_of}
use Rattle.book.proofs.LookLaws.{front-folded}
use mathlib.Core.Path.{◌∙◌}
use Rattle.book.proofs.look.front_of.Goals as goal

pub returns : goal.returns
returns c =
    fold_from_yields_List _ front_turn _ c.fold.result c.fold.ensures.ran (YieldsList-from_slice (entries_of c.args.b) cc)
    (λ a x b q k. search rules)
    ∙ front-folded _
