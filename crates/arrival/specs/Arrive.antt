-- Arrival of a quote or an order, as document 01's "Arrival" has it; reports in the order of its "Reports": "rejection, then 30s, buy first; or 27, trades,
-- then rested, or cancelled rest and 29." The whole is `arrived`, at the end; its parts stand above it: rejected, not rejected, and which of the two it is.
-- Assumes nothing.
use Rattle.std.specs.Prelude.{ℕ, zero, suc, Bool, true, false, cond, not, ◌&&◌, ◌||◌, List, [], ◌∷◌, ◌++◌, eqb}
use Rattle.prices.specs.Side.{away}
use Rattle.prices.specs.Test.{Test, only_for, reason_of}
use Rattle.prices.specs.Protect.{bars}
use Rattle.lists.specs.Run.{Ran, still, and_then}
use Rattle.packing.specs.declared.report.Report.{Report}
use Rattle.book.specs.declared.Entry.{Entry}
use Rattle.book.specs.Entries.{quote, with_quantity}
use Rattle.book.specs.Change.{post}
use Rattle.book.specs.Look.{national}
use Rattle.telling.specs.Tell.{rejected, rested, cancelled}
use Rattle.terms.specs.declared.Terms.{Terms}
use Rattle.terms.specs.Terms.{market_of, guard_of}
use Rattle.arrival.specs.Cancel.{cut_quote}
use Rattle.arrival.specs.Take.{Taking, took}
use Rattle.arrival.specs.Post.{prices_of, as_posted, stops_in, stop_for}

-- a report of its own, and no change
abbrev pub reported : Report → List Entry → Ran (List Entry) Report
reported r l = record { final = l; records = r ∷ [] }

-- what concerns a maker's quotes concerns quotes only: "An order's rest is just cancelled."
abbrev pub of_quotes : Entry → (List Entry → Ran (List Entry) Report) → List Entry → Ran (List Entry) Report
of_quotes e f l = cond (quote e) (f l) (still l)

-- ---- rejected ----

-- "24 cancels the same side; 25 and 26 cancel both of the maker's quotes", "buy first"; 20 to 23 do as 24 does: "the maker's resting same-side quote is
-- cancelled"
abbrev pub both_quotes : ℕ → Bool
both_quotes why = eqb why 25 || eqb why 26

-- "30 own quote rejected"
unfoldable pub rejected_by : ℕ → Entry → List Entry → Ran (List Entry) Report
rejected_by why e l =
    and_then (reported (rejected why e) l)
    (cond (both_quotes why)
    (λ (r : List Entry). and_then (cut_quote 30 e.party false r) (cut_quote 30 e.party true))
    (cut_quote 30 e.party e.sell))

-- ---- not rejected: "A quote not rejected first removes the one it replaces." ----

-- "27 replaced"
abbrev pub replaced : Entry → List Entry → Ran (List Entry) Report
replaced e l = of_quotes e (cut_quote 27 e.party e.sell) l

-- its trades, once the quote that it replaces is gone; and the book that they leave, in which what is left would post
abbrev pub trades_of : Terms → Entry → List Entry → Ran Taking Report
trades_of t e l = took (market_of t) e (replaced e l).final

abbrev pub book_left : Terms → Entry → List Entry → List Entry
book_left t e l = (trades_of t e l).final.book

-- what is left rests, at the end of the rank
abbrev pub posted : Terms → Entry → ℕ → List Entry → Ran (List Entry) Report
posted t e left l =
    record { final = post (as_posted e left (prices_of t e l)) l; records = rested (as_posted e left (prices_of t e l)) ∷ [] }

-- "the rest is cancelled and", for a quote, "the maker's opposite quote too"; "29 opposite side"
abbrev pub cancelled_rest : ℕ → Entry → ℕ → List Entry → Ran (List Entry) Report
cancelled_rest why e left l = and_then (reported (cancelled why (with_quantity left e)) l) (of_quotes e (cut_quote 29 e.party (not e.sell)))

-- the end of an arrival that was not rejected: nothing is left, or it posts, or it is stopped
abbrev pub finished : Terms → Entry → ℕ → ℕ → List Entry → Ran (List Entry) Report
finished t e zero why l = still l
finished t e (suc left) zero l = posted t e (suc left) l
finished t e (suc left) (suc why) l = cancelled_rest (suc why) e (suc left) l

-- the replaced quote goes, trades, the end
unfoldable pub entered : Terms → Entry → List Entry → Ran (List Entry) Report
entered t e l =
    and_then (replaced e l)
    (λ (r : List Entry). let x : Ran Taking Report = took (market_of t) e r in
    and_then (record { final = x.final.book; records = x.records }) (finished t e x.final.left (stop_for t e x.final.book)))

-- "A quote so stopped with nothing traded is rejected": the reason, 0 where it is not. The quote that it would replace stands on its own side, where it
-- neither trades nor stops it
abbrev pub none_traded : List Report → Bool
none_traded [] = true
none_traded (r ∷ rs) = false

unfoldable pub stops_at_once : Terms → Entry → List Entry → ℕ
stops_at_once t e l = cond (quote e && none_traded (took (market_of t) e l).records) (stop_for t e l) 0

-- ---- "Price protection comes first, for quotes only" ----

-- against the NBO or NBB
abbrev pub bars_against : Terms → Entry → ℕ → List Test
bars_against t e best = only_for (quote e) (bars (guard_of t) e.sell best e.limit)

-- which is that of the book
abbrev pub bars_in : Terms → Entry → List Entry → List Test
bars_in t e l = bars_against t e (national e.sell (away (market_of t) e.sell) l)

unfoldable pub protection_for : Terms → Entry → List Entry → ℕ
protection_for t e l = reason_of e.sell (bars_in t e l)

-- ---- THE TESTS THAT ARE PUT TO AN ENTRY ON ITS ARRIVAL, in document 01's order: 25, 26, 24, 20, 21, 23, 22 ----

-- price protection against the NBO or NBB, the others in the book in which it would post
abbrev pub tests_against : Terms → Entry → ℕ → List Entry → List Test
tests_against t e best posting = bars_against t e best ++ stops_in t e posting

-- price protection in the book that the message found
abbrev pub tests_put : Terms → Entry → List Entry → List Entry → List Test
tests_put t e found posting = tests_against t e (national e.sell (away (market_of t) e.sell) found) posting

-- ---- which of the two it is ----

-- why an arrival is rejected; 0 where it is not
abbrev pub or_else : ℕ → ℕ → ℕ
or_else zero why = why
or_else (suc first) why = suc first

unfoldable pub rejection : Terms → Entry → List Entry → ℕ
rejection t e l = or_else (protection_for t e l) (stops_at_once t e l)

abbrev pub arrived_as : Terms → Entry → List Entry → ℕ → Ran (List Entry) Report
arrived_as t e l zero = entered t e l
arrived_as t e l (suc why) = rejected_by (suc why) e l

-- WHAT ARRIVAL DOES, before settling
unfoldable pub arrived : Terms → Entry → List Entry → Ran (List Entry) Report
arrived t e l = arrived_as t e l (rejection t e l)

-- "25 and 26 .. block that maker until kind 12"
unfoldable pub blocks : Terms → Entry → List Entry → Bool
blocks t e l = both_quotes (rejection t e l)
