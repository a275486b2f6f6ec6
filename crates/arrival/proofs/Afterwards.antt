-- After a message's own part: who rests, and what the reports are that cancel.
-- Assumes nothing.
use Prim.Native.Nat.{ℕ, zero, suc, ◌≤◌, ◌<◌}
use mathlib.Core.Bool.{Bool, true, false, cond, not}
use mathlib.Core.List.{List}
use native.Mathlib.Omega.{arith}
use Rattle.lists.specs.Tests.{All}
use Rattle.lists.specs.Choose.{Found, nowhere, found}
use Rattle.lists.specs.Run.{Ran, still, and_then}
use Rattle.lists.proofs.Bools.{cond_either}
use Rattle.lists.proofs.TestLaws.{all_snoc}
use Rattle.packing.specs.declared.report.Report.{Report}
use Rattle.book.specs.declared.Entry.{Entry}
use Rattle.book.specs.Entries.{quote, lessened}
use Rattle.telling.specs.Tell.{cancelled}
use Rattle.lists.proofs.RunLaws.{complete-tells}
use Rattle.terms.specs.declared.Terms.{Terms}
use Rattle.terms.specs.Terms.{market_of}
use Rattle.arrival.specs.Cancel.{cut, cut_quote, sweep}
use Rattle.arrival.specs.Take.{Taking}
use Rattle.arrival.specs.Post.{prices_of, as_posted, stop_for}
use Rattle.arrival.specs.Arrive.{of_quotes, both_quotes, rejected_by, replaced, finished, entered, rejection, arrived_as, arrived, trades_of}
use Rattle.arrival.proofs.TakeLaws.{took-all}
use Rattle.arrival.proofs.CutLaws.{quote-all}
use Rattle.arrival.proofs.SweepLaws.{SweepStep, sweeps, sweep-step, sweep-run}

-- ---- who rests after an arrival: what rested before, perhaps with fewer contracts, and the arriving entry, at its prices before some book ----

module _ (t : Terms) (e : Entry) (l : List Entry) (P : Entry → Type 0) (lessens : (q : ℕ) (x : Entry) → q < x.quantity → P x → P (lessened q x))
    (posts : (left : ℕ) (r : List Entry) → P (as_posted e left (prices_of t e r))) where
  quotes-all : (why : ℕ) (side : Bool) (r : List Entry) → All P r → All P (of_quotes e (cut_quote why e.party side) r).final
  unfolding still
  quotes-all why side r a =
      cond_either (λ (x : Ran (List Entry) Report). All P x.final) (quote e) (cut_quote why e.party side r) (still r)
      (λ q. quote-all why e.party side r P a) (λ q. a)

  finished-all : (left why : ℕ) (r : List Entry) → All P r → All P (finished t e left why r).final
  unfolding still
  finished-all zero why r a = a
  finished-all (suc left) zero r a = all_snoc P r (as_posted e (suc left) (prices_of t e r)) a (posts (suc left) r)
  finished-all (suc left) (suc why) r a = quotes-all 29 (not e.sell) r a

  entered_all : All P l → All P (entered t e l).final
  unfolding entered
  entered_all a =
      let x : Ran Taking Report = trades_of t e l in
      finished-all x.final.left (stop_for t e x.final.book) x.final.book
      (took-all (market_of t) e (replaced e l).final P lessens (quotes-all 27 e.sell l a))

  rejected-all : (why : ℕ) → All P l → All P (rejected_by why e l).final
  unfolding rejected_by
  rejected-all why a = pick (both_quotes why)
    where
      pick : (b : Bool)
          → All P
          ((cond b (λ (r : List Entry). and_then (cut_quote 30 e.party false r) (cut_quote 30 e.party true)) (cut_quote 30 e.party e.sell))
          l).final
      pick true = quote-all 30 e.party true (cut_quote 30 e.party false l).final P (quote-all 30 e.party false l P a)
      pick false = quote-all 30 e.party e.sell l P a

  pub arrived-rests : All P l → All P (arrived t e l).final
  unfolding arrived
  arrived-rests a = go (rejection t e l)
    where
      go : (why : ℕ) → All P (arrived_as t e l why).final
      go zero = entered_all a
      go (suc why) = rejected-all (suc why) a

-- ---- what cancelling reports ----

-- with 28 what a message cancels, with 31 what a phase does
module _ (l : List Entry) (P : Report → Type 0) (tells : (why : ℕ) → 27 ≤ why → (x : Entry) → P (cancelled why x)) where
  pub cut-says : (why : ℕ) → 27 ≤ why → (f : Found Entry) → All P (cut why l f).records
  unfolding cut still
  cut-says why own nowhere = tt
  cut-says why own (found i x) = (tells why own x, tt)

  pub sweep-says : (phase : ℕ) → All P (sweep phase l).records
  sweep-says phase = complete-tells (λ _. Unit {0}) P (λ s r t h g. tt) (λ s r t h g. said (sweep-step phase s g)) tt (sweep-run phase l)
    where
      said : {s t : List Entry} {r : Report} → SweepStep phase s r t → P r
      said (sweeps {e = e} c) = tells 31 (omega arith) e
