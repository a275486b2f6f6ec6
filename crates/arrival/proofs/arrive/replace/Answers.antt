use Rattle.arrival.specs.Cancel.{cut_quote}
use Rattle.book.specs.Shape.{entries_of}
use mathlib.Core.Path.{sym, ◌∙◌}
use Rattle.telling.proofs.StageLaws.{staged-none, staged-as}
use Rattle.arrival.proofs.EnterLaws.{of-order}
use Rattle.arrival.proofs.arrive.replace.Goals as goal

pub returns-clause-told : goal.returns-clause-told
returns-clause-told c =
    let e = c.args.e in
    staged-as (of-order e (cut_quote 27 e.party e.sell) (entries_of c.args.b) (sym c.is_quote.ensures ∙ c.if-is_quote.false))
    (staged-none c.args.b c.args.reports.now.room.now c.args.reports.now.count c.requires.well)
