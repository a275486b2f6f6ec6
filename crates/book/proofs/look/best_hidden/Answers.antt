use Rattle.std.proofs.Common.{rules}
use Rattle.std.specs.List.{fold}
use Rattle.book.specs.Look.{facing, hidden_price}
use Rattle.book.specs.Shape.{entries_of}
use Rattle.book.proofs.LookLaws.{hidden-folded}
use mathlib.Core.Path.{◌≡◌, ◌∙◌}
use Rattle.book.proofs.look.best_hidden.Goals as goal

pub returns : goal.returns
returns c =
    let h : c.fold.result ≡ fold (facing hidden_price c.args.sell) 0 (entries_of c.args.b) = search rules in
    h ∙ hidden-folded _ _
