use borrow.Author.Tests.{ne_eqb}
use mathlib.Core.Path.{sym}
use Rattle.book.specs.Shape.{entries_of}
use Rattle.telling.proofs.StageLaws.{staged-as, staged-none}
use Rattle.handler.proofs.Stages.{settled-shut}
use Rattle.handler.proofs.handle.settle_if.Goals as goal

pub returns-clause-told : goal.returns-clause-told
returns-clause-told c =
    staged-as (sym (settled-shut c.args.t (entries_of c.args.b) (ne_eqb _ _ c.if-t-eq1.false)))
    (staged-none c.args.b c.args.reports.now.room.now c.args.reports.now.count c.requires.well)
