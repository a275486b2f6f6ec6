-- The reports of what happens to an entry, as document 01's "Reports" words them.
-- Assumes nothing.
use Rattle.std.specs.Prelude.{ℕ}
use Rattle.packing.specs.declared.report.Report.{Report}
use Rattle.packing.specs.declared.report.Report.TheVariants.{Noted, Rejected, Traded, Rested, Repriced, Cancelled}
use Rattle.book.specs.declared.Entry.{Entry}
use Rattle.book.specs.Entries.{display}

-- "2 rejected: limit in price, entered quantity"
abbrev pub rejected : ℕ → Entry → Report
rejected why e = Rejected why e.sell e.party e.number e.limit e.quantity

-- "3 traded: taker's side, party, entry; resting entry as other; price; quantity traded"; "A taker .. trades at the resting working price"
abbrev pub traded : Entry → Entry → ℕ → Report
traded taker resting quantity = Traded taker.sell taker.party taker.number resting.number resting.working quantity

-- "4 rested and 5 repriced: display, working, quantity left"
abbrev pub rested : Entry → Report
rested e = Rested e.sell e.party e.number (display e) e.working e.quantity

abbrev pub repriced : Entry → Report
repriced e = Repriced e.sell e.party e.number (display e) e.working e.quantity

-- "6 cancelled: limit, quantity cancelled"
abbrev pub cancelled : ℕ → Entry → Report
cancelled why e = Cancelled why e.sell e.party e.number e.limit e.quantity

-- the entry that a report says took, 0 for none
abbrev pub taker_of : Report → ℕ
taker_of Noted = 0
taker_of (Rejected why s party number limit quantity) = 0
taker_of (Traded s party number other price quantity) = number
taker_of (Rested s party number display working quantity) = 0
taker_of (Repriced s party number display working quantity) = 0
taker_of (Cancelled why s party number limit quantity) = 0
