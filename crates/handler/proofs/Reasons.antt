-- THE REASON FROM 20 TO 26 IN A REPORT THAT IS READ BACK FROM THE ROOM IS THE TRUE ONE, for every accepted message that brings a quote or an order: what it
-- says holds, and what no reason before it in document 01's order says does. 27, 29 and 30 compare no prices; where they stand is listed in Taught.
-- Assumes nothing.
use Prim.Native.Nat.{ℕ}
use mathlib.Core.Path.{◌≡◌, sym, subst}
use mathlib.Core.Bool.{true}
use mathlib.Core.List.{List}
use Rattle.std.specs.Prelude.{Some}
use Rattle.kinds.specs.Kinds.{enters}
use Rattle.lists.specs.Tests.{All}
use Rattle.lists.specs.Run.{Ran}
use Rattle.lists.proofs.TestLaws.{all_append}
use Rattle.packing.specs.declared.message.Event.{Event}
use Rattle.packing.specs.declared.report.Report.{Report}
use Rattle.packing.specs.Codec.{unpack_of}
use Rattle.packing.specs.Message.{messages}
use Rattle.book.specs.declared.Entry.{Entry}
use Rattle.book.specs.Shape.{entries_of}
use Rattle.arrival.proofs.ReasonsTold.{TellsWhy, reasons-true}
use Rattle.series.specs.declared.Series.{Series}
use Rattle.handler.specs.Acts.{Accepted}
use Rattle.handler.specs.declared.Ask.{Ask}
use Rattle.handler.specs.Asked.{ask_of}
use Rattle.handler.specs.Accept.{comer, done}
use Rattle.handler.specs.Handle.{handled}
use Rattle.handler.proofs.Passed.{accepted-as, accepted-arriving}
use Rattle.handler.proofs.Stages.{own-enters}
use Rattle.handler.proofs.Demands.{own_of, settling_of, settling-says, EachReport, reports-hold}

-- of what a brings to the series s
abbrev pub TrueReason : Series → Ask → Report → Type 0
TrueReason s a r = TellsWhy s.terms (comer s.terms.given a) (entries_of s.book) r

module _ (s : Series) (a : Ask) (ok : Accepted s a) (comes : enters a.kind ≡ true) where
  done-true : All (TrueReason s a) (done s.terms a (entries_of s.book)).records
  unfolding done
  done-true =
      all_append (TrueReason s a) (own_of s a).records (settling_of s a).records
      (subst (λ (x : Ran (List Entry) Report). All (TrueReason s a) x.records) (sym (own-enters s.terms a (entries_of s.book) comes))
      (reasons-true (accepted-arriving s a ok comes)))
      (settling-says s a ok (TrueReason s a) (λ x. tt) (λ x y q. tt))

-- EVERY REASON FROM 20 TO 26 THAT IS TOLD IS TRUE
pub reasons-told-true : (s : Series) (message room : List ℕ) (e : Event) → unpack_of messages message ≡ Some e → (handled s message room).answer.refusal ≡ 0
    → enters (ask_of e).kind ≡ true → EachReport (TrueReason s (ask_of e)) (handled s message room)
reasons-told-true s message room e read zero comes =
    reports-hold s message room e read zero (TrueReason s (ask_of e)) (done-true s (ask_of e) (accepted-as s message room e read zero) comes)
