use Rattle.std.proofs.Common.{rules}
use Rattle.std.proofs.lemmas.Iterator.{YieldsList-from_slice}
use Rattle.std.proofs.lemmas.Iterator.Search.{position_from_yields_List}
use Rattle.book.specs.Entries.{own_entry}
use Rattle.book.specs.Look.{entry_of}
use Rattle.book.specs.Shape.{entries_of}
use Rattle.book.proofs.LookLaws.{position-first}
use mathlib.Core.Path.{◌∙◌}
use Rattle.book.proofs.find.find_entry.Goals as goal

pub returns : goal.returns
unfolding entry_of
returns c =
    position_from_yields_List (own_entry c.args.party c.args.number) _ _ c.position.result c.position.ensures.ran
    (YieldsList-from_slice (entries_of c.args.b) cc)
    (λ x b q k. search rules)
    ∙ position-first _ _
