use Rattle.arrival.proofs.CancelLaws.{quote-cuts, quote-cut}
use Rattle.arrival.proofs.cancel.cut_quote.Goals as goal

pub cut_rank-requires : goal.cut_rank-requires
cut_rank-requires c = quote-cuts c.args.why c.args.party c.args.sell _ c.find_quote-rank.ensures c.requires

pub returns-clause-told : goal.returns-clause-told
returns-clause-told c =
    quote-cut c.args.why c.args.party c.args.sell _ c.find_quote-rank.ensures c.requires.well
    c.cut_rank.ensures.told
