use Rattle.telling.proofs.StageLaws.{staged-none}
use Rattle.arrival.proofs.cancel.cut_rank.Goals as goal

pub returns-in_default-clause-told : goal.returns-in_default-clause-told
returns-in_default-clause-told c = rw c.in_default.is (staged-none c.args.b c.args.reports.now.room.now c.args.reports.now.count c.requires.well)

pub cut_at-requires : goal.cut_at-requires
cut_at-requires c =
    let e = c.in-Some.is in
    record { place = rw e at c.requires.inside; roomy = rw e at c.requires.roomy }

pub returns-clause-told : goal.returns-clause-told
returns-clause-told c = rw c.in-Some.is c.cut_at.ensures.told
