-- What an accepted message does: its own part, the series' numbers and block list after it, and settling.
-- Assumes nothing.
use Rattle.std.specs.Prelude.{ℕ, ◌+◌, ◌-◌, Bool, true, false, cond, ◌&&◌, List, eqb, set}
use Rattle.lists.specs.Run.{Ran, still, and_then}
use Rattle.packing.specs.declared.report.Report.{Report}
use Rattle.packing.specs.declared.report.Report.TheVariants.{Noted}
use Rattle.book.specs.declared.Entry.{Entry}
use Rattle.book.specs.declared.Pricing.TheVariants.{Fixed}
use Rattle.book.specs.Shape.{entries_of, book_of}
use Rattle.settling_theory.specs.Settle.{settled}
use Rattle.terms.specs.declared.Terms.{Terms}
use Rattle.terms.specs.Terms.{market_of}
use Rattle.arrival.specs.Cancel.{cancel_entry, cancel_quote, sweep}
use Rattle.arrival.specs.Arrive.{reported, arrived, blocks}
use Rattle.series.specs.declared.Series.{Series}
use Rattle.handler.specs.declared.Ask.{Ask}
use Rattle.kinds.specs.Kinds.{enters, quotes, cancels_entry, cancels_quote, sets_away, sets_underlying, sets_phase, enables}

-- the quote or order that arrives: "Entry numbers run 1 to 1,000,000, one for each quote or order not refused, rejected ones included"
abbrev pub comer : ℕ → Ask → Entry
comer given a = record {
  number = given + 1;
  party = a.party;
  kind = a.kind;
  sell = a.sell;
  limit = a.price;
  quantity = a.quantity;
  working = a.price;
  pricing = Fixed;
}

-- of the series that it comes to
abbrev pub comer_of : Series → Ask → Entry
comer_of s a = comer s.terms.given a

-- THE MESSAGE'S OWN PART. Kinds 9 to 12 are noted; a phase then cancels: "Phase: noted, then 31s by entry." "Underlying and enable of themselves move no entry;
-- settling follows them too."
unfoldable pub own_part : Terms → Ask → List Entry → Ran (List Entry) Report
own_part t a l =
    cond (enters a.kind) (arrived t (comer t.given a) l)
    (cond (cancels_entry a.kind) (cancel_entry a.party a.entry l)
    (cond (cancels_quote a.kind) (cancel_quote a.party a.sell l)
    (cond (sets_phase a.kind) (and_then (reported Noted l) (sweep a.quantity)) (reported Noted l))))

-- the series' numbers afterwards
unfoldable pub terms_after : Terms → Ask → Terms
terms_after t a = record {
  put = t.put;
  exempt = t.exempt;
  m = t.m;
  k = t.k;
  strike = t.strike;
  phase = cond (sets_phase a.kind) a.quantity t.phase;
  bid = cond (sets_away a.kind) a.price t.bid;
  offer = cond (sets_away a.kind) a.second t.offer;
  underlying = cond (sets_underlying a.kind) a.price t.underlying;
  given = cond (enters a.kind) (t.given + 1) t.given;
}

-- "25 and 26 .. block that maker until kind 12"
unfoldable pub blocked_after : Terms → Ask → List Entry → List Bool → List Bool
blocked_after t a l blocked =
    cond (enables a.kind) (set blocked (a.party - 1) false)
    (cond (quotes a.kind && blocks t (comer t.given a) l) (set blocked (a.party - 1) true) blocked)

-- "After every accepted message in an open series."
abbrev pub settled_if : Terms → List Entry → Ran (List Entry) Report
settled_if t l = cond (eqb t.phase 1) (settled (market_of t) l) (still l)

-- THE WHOLE, on the entries that rest. "Settling comes last."
unfoldable pub done : Terms → Ask → List Entry → Ran (List Entry) Report
done t a l = and_then (own_part t a l) (settled_if (terms_after t a))

abbrev pub series_after : Series → Ask → Series
series_after s a = record {
  terms = terms_after s.terms a;
  blocked = blocked_after s.terms a (entries_of s.book) s.blocked;
  book = book_of (done s.terms a (entries_of s.book)).final;
}
