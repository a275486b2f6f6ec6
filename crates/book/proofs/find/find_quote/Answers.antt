use Rattle.std.proofs.Common.{rules}
use Rattle.std.proofs.lemmas.Iterator.{YieldsList-from_slice}
use Rattle.std.proofs.lemmas.Iterator.Search.{position_from_yields_List}
use Rattle.book.specs.Entries.{quote_of}
use Rattle.book.specs.Look.{quote_in}
use Rattle.book.specs.Shape.{entries_of}
use Rattle.book.proofs.LookLaws.{position-first}
use mathlib.Core.Path.{◌∙◌}
use Rattle.book.proofs.find.find_quote.Goals as goal

pub returns : goal.returns
unfolding quote_in
returns c =
    position_from_yields_List (quote_of c.args.party c.args.sell) _ _ c.position.result c.position.ensures.ran
    (YieldsList-from_slice (entries_of c.args.b) cc)
    (λ x b q k. search rules)
    ∙ position-first _ _
