use Rattle.std.proofs.Common.{rules}
use Rattle.std.proofs.iter.Serving.{serving}
use Rattle.std.proofs.lemmas.Iterator.{YieldsList-from_slice}
use Rattle.std.proofs.lemmas.Iterator.Search.{any_from_yields_List}
use Rattle.book.specs.Shape.{entries_of}
use Rattle.settling.specs.Turns.{stirring_by}
use Rattle.settling.proofs.Judging.{watched-bounds}
use Rattle.settling.proofs.RankLaws.{stirs-any}
use mathlib.Core.Path.{◌∙◌}
use Rattle.settling.proofs.watch.is_stirring_by.Goals as goal

pub any-requires-clause-callable : goal.any-requires-clause-callable
any-requires-clause-callable c = let j = watched-bounds c.requires in grind (serving, j)

pub returns : goal.returns
returns c =
    any_from_yields_List (stirring_by c.args.market c.args.front) _ _ c.any.result c.any.ensures.ran (YieldsList-from_slice (entries_of c.args.b) cc)
    (λ x b q k. search rules)
    ∙ stirs-any c.args.market c.args.front (entries_of c.args.b) c.requires.known
