use Rattle.arrival.proofs.EnteredLaws.{left-goes}
use borrow.Author.Rules.{rules}
use Rattle.arrival.proofs.arrive.book_left.Goals as goal

pub trade_all-requires : goal.trade_all-requires
trade_all-requires c =
    rw (c.new-reports.ensures.none_yet, c.new-reports.ensures.as_lent)
    (left-goes c.requires _ c.is_trading-trading.ensures _ (search rules))
