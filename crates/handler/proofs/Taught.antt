-- WHAT THE CLASS IS TAUGHT, OF THE HANDLER'S ANSWER. Each statement is of `handled`, for every series, every message that it accepts and every room: of the
-- reports that stand in the room, and of the series left. The words are those of TaughtWords; the same of a message's parts stands in ForTheClass, here and in
-- crate arrival.
-- Assumes nothing.
use Prim.Native.Nat.{ℕ, ◌+◌, ◌≤◌}
use mathlib.Core.Path.{◌≡◌}
use mathlib.Core.Bool.{Bool, true, false}
use mathlib.Core.List.{List}
use Rattle.std.specs.Prelude.{Some}
use Rattle.prices.specs.Side.{reaches}
use Rattle.kinds.specs.Kinds.{enters, quotes, minds}
use Rattle.kinds.proofs.KindLaws.{sliding-enters, minds-sliding}
use Rattle.lists.specs.Places.{At}
use Rattle.lists.proofs.TestLaws.{all-at}
use Rattle.packing.specs.declared.message.Event.{Event}
use Rattle.packing.specs.declared.report.Report.TheVariants.{Rejected, Cancelled}
use Rattle.packing.specs.Codec.{unpack_of}
use Rattle.packing.specs.Message.{messages}
use Rattle.book.specs.declared.Entry.{Entry}
use Rattle.book.specs.Entries.{display}
use Rattle.book.specs.Shape.{entries_of}
use Rattle.book.proofs.ShapeLaws.{entries-of-book}
use Rattle.telling.proofs.Within.{TradesWithin}
use Rattle.terms.specs.Terms.{market_of}
use Rattle.arrival.proofs.ForTheClass as arriving
use Rattle.series.specs.declared.Series.{Series}
use Rattle.handler.specs.Asked.{ask_of}
use Rattle.handler.specs.Accept.{comer_of, terms_after, done}
use Rattle.handler.specs.Handle.{Handled, accepted, handled}
use Rattle.handler.proofs.Passed.{of-accepted, accepted-arriving}
use Rattle.handler.proofs.Stages.{own-enters}
use Rattle.handler.proofs.Demands.{reports_in, OfReport, EachReport, each-told}
use Rattle.handler.proofs.ForTheClass as class
use Rattle.handler.proofs.TaughtWords.{TakesSame, TakesBoth, TakesOpposite, LeavesQuotes}
use Rattle.handler.proofs.TaughtLaws.{RejectsAs, CancelsAs, done-says, rejects-as, cancels-as}
use Rattle.handler.proofs.TaughtLaws.{takes_same, takes-both, takes-opposite, leaves-quotes}

-- ---- THE THEOREMS, of what is answered ----

module _ (s : Series) (message room : List ℕ) (e : Event) (read : unpack_of messages message ≡ Some e)
    (zero : (handled s message room).answer.refusal ≡ 0) where
  -- A DISPLAY NEVER MOVES BACK WHILE ITS QUOTE RESTS: in the series left, the display of an entry that rested before is as aggressive as it was, or more
  pub display-never-back : (i j : ℕ) (y x : Entry) → At (entries_of s.book) i y → At (entries_of (handled s message room).answer.series.book) j x
      → y.number ≡ x.number → reaches y.sell (display x) (display y) ≡ true
  display-never-back i j y x at there same =
      of-accepted s message room e read zero
      (λ (h : Handled). At (entries_of h.answer.series.book) j x → reaches y.sell (display x) (display y) ≡ true)
      (λ ok space z. class.display-never-back s (ask_of e) ok i j y x at (rw (entries-of-book (done s.terms (ask_of e) (entries_of s.book)).final) at z)
      same)
      there

  -- AN MMALO ADDS ONLY: no report in the room names as taker a quote of a kind that minds C, whether it rested before
  pub adds-only : (i : ℕ) (y : Entry) → At (entries_of s.book) i y → minds y.kind ≡ true
      → EachReport (class.NotTaker y.number) (handled s message room)
  adds-only i y at mi =
      of-accepted s message room e read zero (EachReport (class.NotTaker y.number))
      (λ ok space. each-told s (ask_of e) ok room space (class.NotTaker y.number) ((class.adds-only s (ask_of e) ok).resting i y at mi))

  -- or is what the message brought
  pub adds-on-arrival : minds (ask_of e).kind ≡ true → EachReport (class.NotTaker (s.terms.given + 1)) (handled s message room)
  adds-on-arrival mi =
      of-accepted s message room e read zero (EachReport (class.NotTaker (s.terms.given + 1)))
      (λ ok space. each-told s (ask_of e) ok room space (class.NotTaker (s.terms.given + 1))
      ((class.adds-only s (ask_of e) ok).arriving (sliding-enters (ask_of e).kind (minds-sliding (ask_of e).kind mi)) mi))

  -- NO TRADE IN THE ROOM IS BEYOND THE AWAY PRICE OF ITS TAKER, as the series left has it
  pub trades-within-away : EachReport (TradesWithin (market_of (handled s message room).answer.series.terms)) (handled s message room)
  trades-within-away =
      of-accepted s message room e read zero (λ (h : Handled). EachReport (TradesWithin (market_of h.answer.series.terms)) h)
      (λ ok space. each-told s (ask_of e) ok room space (TradesWithin (market_of (terms_after s.terms (ask_of e)))) (class.trades-within-away s (ask_of e) ok))

  -- AN ARRIVING MMALO IS PRICED OFF DARK INTEREST TOO: where a report in the room says that it rests, both its prices are short of every entry against it, and
  -- just its aims before the best price of them all
  pub priced-off-dark : minds (ask_of e).kind ≡ true
      → EachReport (arriving.PricedOff s.terms (comer_of s (ask_of e)) (entries_of s.book)) (handled s message room)
  priced-off-dark mi =
      of-accepted s message room e read zero (EachReport (arriving.PricedOff s.terms (comer_of s (ask_of e)) (entries_of s.book)))
      (λ ok space.
      let q : enters (ask_of e).kind ≡ true = sliding-enters (ask_of e).kind (minds-sliding (ask_of e).kind mi) in
      done-says s (ask_of e) ok room space (arriving.PricedOff s.terms (comer_of s (ask_of e)) (entries_of s.book))
      (rw (own-enters s.terms (ask_of e) (entries_of s.book) q) (arriving.priced-off-dark (accepted-arriving s (ask_of e) ok q) mi)) (λ x. tt) (λ x y q. tt))

  module _ (i why : ℕ) (side : Bool) (party number limit quantity : ℕ) where
    -- A REJECTION WITH 20 TO 24 TAKES THE SAME SIDE
    pub rejected-takes-same : At (reports_in (handled s message room)) i (Some (Rejected why side party number limit quantity)) → why ≤ 24
        → TakesSame s (ask_of e) why (handled s message room)
    rejected-takes-same there high =
        of-accepted s message room e read zero
        (λ (h : Handled). At (reports_in h) i (Some (Rejected why side party number limit quantity)) → TakesSame s (ask_of e) why h)
        (λ ok space z. let r = all-at (OfReport (RejectsAs s (ask_of e))) (reports_in (accepted s (ask_of e) room)) i
        (Some (Rejected why side party number limit quantity)) (rejects-as s (ask_of e) ok room space) z in
        takes_same s (ask_of e) ok room space r.0 why r.1.1 r.1.0 high)
        there

    -- A REJECTION WITH 25 OR 26 TAKES BOTH, AND BLOCKS
    pub protected-takes-both : At (reports_in (handled s message room)) i (Some (Rejected why side party number limit quantity)) → 25 ≤ why
        → TakesBoth s (ask_of e) why (handled s message room)
    protected-takes-both there low =
        of-accepted s message room e read zero
        (λ (h : Handled). At (reports_in h) i (Some (Rejected why side party number limit quantity)) → TakesBoth s (ask_of e) why h)
        (λ ok space z. let r = all-at (OfReport (RejectsAs s (ask_of e))) (reports_in (accepted s (ask_of e) room)) i
        (Some (Rejected why side party number limit quantity)) (rejects-as s (ask_of e) ok room space) z in
        takes-both s (ask_of e) ok room space r.0 why r.1.1 low)
        there

    -- A QUOTE'S REST THAT IS CANCELLED, with another reason than 27 to 31, TAKES THE OPPOSITE SIDE
    pub remainder-takes-opposite : quotes (ask_of e).kind ≡ true
        → At (reports_in (handled s message room)) i (Some (Cancelled why side party number limit quantity)) → why ≤ 26
        → TakesOpposite s (ask_of e) why (handled s message room)
    remainder-takes-opposite quoting there low =
        of-accepted s message room e read zero
        (λ (h : Handled). At (reports_in h) i (Some (Cancelled why side party number limit quantity)) → TakesOpposite s (ask_of e) why h)
        (λ ok space z. let r = all-at (OfReport (CancelsAs s (ask_of e))) (reports_in (accepted s (ask_of e) room)) i
        (Some (Cancelled why side party number limit quantity)) (cancels-as s (ask_of e) ok room space) z low in
        takes-opposite s (ask_of e) ok room space r.entering quoting why r.left r.stopped)
        there

  -- AN ORDER CANCELS NO QUOTE AND IS NEVER REJECTED
  pub orders-leave-quotes : enters (ask_of e).kind ≡ true → quotes (ask_of e).kind ≡ false → LeavesQuotes s (ask_of e) (handled s message room)
  orders-leave-quotes q order =
      of-accepted s message room e read zero (LeavesQuotes s (ask_of e)) (λ ok space. leaves-quotes s (ask_of e) ok room space q order)
