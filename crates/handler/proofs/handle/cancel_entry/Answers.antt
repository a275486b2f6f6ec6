use Rattle.book.specs.Shape.{entries_of}
use Rattle.book.specs.Entries.{own_entry}
use Rattle.book.specs.Look.{entry_of}
use Rattle.book.proofs.LookLaws.{entry-tells}
use Rattle.telling.proofs.StageLaws.{staged-as}
use Rattle.arrival.proofs.CancelLaws.{cut-rank, rank-cuts}
use Rattle.handler.proofs.handle.cancel_entry.Goals as goal

pub cut_rank-requires : goal.cut_rank-requires
cut_rank-requires c =
    let l = entries_of c.args.b in
    rank-cuts (own_entry c.args.party c.args.entry) (λ _. 0) c.args.b c.requires.well 28
    (entry_of c.args.party c.args.entry l) _ (entry-tells l c.args.party c.args.entry) c.find_entry-rank.ensures
    c.requires.roomy

pub returns-clause-told : goal.returns-clause-told
returns-clause-told c =
    let l = entries_of c.args.b in
    staged-as
    (cut-rank (own_entry c.args.party c.args.entry) (λ _. 0) c.args.b c.requires.well 28
    (entry_of c.args.party c.args.entry l) _ (entry-tells l c.args.party c.args.entry) c.find_entry-rank.ensures)
    c.cut_rank.ensures.told
