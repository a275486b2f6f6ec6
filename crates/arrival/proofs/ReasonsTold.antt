-- THE REASON IN A REPORT IS THE TRUE ONE: that of a rejection is the first that holds before the book that the message found; that of an arriving entry's
-- cancelled rest is the first that holds before the book that its trades left.
-- Assumes nothing.
use mathlib.Core.Path.{◌≡◌}
use mathlib.Core.List.{List}
use native.Mathlib.Omega.{arith}
use Rattle.prices.proofs.StopLaws.{stop_order}
use Rattle.lists.specs.Tests.{All}
use Rattle.lists.proofs.FirstLaws.{FirstOf}
use Rattle.packing.specs.declared.report.Report.{Report}
use Rattle.packing.specs.declared.report.Report.TheVariants.{Noted, Rejected, Traded, Rested, Repriced, Cancelled}
use Rattle.book.specs.declared.Entry.{Entry}
use Rattle.soundness_theory.proofs.KeepLaws.{here-facts}
use Rattle.terms.specs.declared.Terms.{Terms}
use Rattle.arrival.specs.Arrive.{arrived, trades_of}
use Rattle.arrival.specs.Asks.{Arriving}
use Rattle.arrival.proofs.EnterLaws.{facts-of}
use Rattle.arrival.proofs.ArriveKeeps.{left-sound}
use Rattle.arrival.proofs.ArriveTells.{Was, arrived-says-why}
use Rattle.arrival.proofs.StopReasons.{StoppedIn, stop-first, RejectedFor, reject_order, rejection-first}

-- what a report says of its reason, for an arrival of e before the book l. Any other entry that it cancels is a quote of its maker, with 27, 29 or 30, which
-- compare no prices
abbrev pub TellsWhy : Terms → Entry → List Entry → Report → Type 0
TellsWhy t e l Noted = Unit {0}
TellsWhy t e l (Rejected why s party number limit quantity) = FirstOf (RejectedFor t e l) reject_order why
TellsWhy t e l (Traded s party number other price quantity) = Unit {0}
TellsWhy t e l (Rested s party number display working quantity) = Unit {0}
TellsWhy t e l (Repriced s party number display working quantity) = Unit {0}
TellsWhy t e l (Cancelled why s party number limit quantity) =
    number ≡ e.number → FirstOf (StoppedIn t e (trades_of t e l).final.book) stop_order why

pub reasons-true : {t : Terms} {e : Entry} {l : List Entry} → Arriving t e l → All (TellsWhy t e l) (arrived t e l).records
reasons-true {t} {e} {l} a =
    arrived-says-why t e l (TellsWhy t e l) (record {
      rejects = λ q why some h. (rejection-first t e l (facts-of a).1).told why some h;
      cancels = λ q why own s x o w same. absurd (other x w same);
      trades = λ mi y q w. tt;
      rests = λ left h. tt;
      stops = λ why left r same. (stop-first t e (trades_of t e l).final.book (left-sound a)).told why r.stops r.reason;
    })
  where
    -- what rested has another number
    other : (x : Entry) → Was l x → x.number ≡ e.number → ⊥
    other x w same =
        omega (arith, (here-facts (facts-of a).1 w.place w.entry w.there).given, w.number, same, a.number)
