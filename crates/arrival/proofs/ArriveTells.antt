-- EVERY REPORT OF AN ARRIVAL is its rejection, the cancellation of a quote of its own maker, a trade that it took within its bound, or what became of its rest;
-- and only quotes are rejected or cancel quotes.
-- Assumes nothing.
use Prim.Native.Nat.{ℕ, zero, suc, ◌≤◌}
use mathlib.Core.Path.{◌≡◌, refl}
use mathlib.Core.Bool.{Bool, true, false, cond, not}
use mathlib.Core.List.{List}
use native.Mathlib.Omega.{arith}
use Rattle.prices.specs.Side.{reaches}
use Rattle.kinds.specs.Kinds.{minds}
use Rattle.lists.specs.Places.{At}
use Rattle.lists.specs.Tests.{All}
use Rattle.lists.specs.Choose.{Found, nowhere, found}
use Rattle.lists.specs.Run.{Ran, still, and_then}
use Rattle.lists.proofs.Bools.{cond_either}
use Rattle.lists.proofs.TestLaws.{all_append, all-at, all_of}
use Rattle.lists.proofs.ChooseLaws.{Tells}
use Rattle.packing.specs.declared.report.Report.{Report}
use Rattle.book.specs.declared.Entry.{Entry}
use Rattle.book.specs.Entries.{quote, quote_of, with_quantity}
use Rattle.book.specs.Look.{quote_in}
use Rattle.book.proofs.LookLaws.{quote-tells}
use Rattle.telling.specs.Tell.{rejected, traded, rested, cancelled}
use Rattle.terms.specs.declared.Terms.{Terms}
use Rattle.terms.specs.Terms.{market_of}
use Rattle.arrival.specs.Cancel.{cut, cut_quote}
use Rattle.arrival.specs.Take.{Taking, bound}
use Rattle.arrival.specs.Post.{prices_of, as_posted, stop_for}
use Rattle.arrival.specs.Arrive.{of_quotes, both_quotes, rejected_by, replaced, trades_of, finished, entered, rejection, arrived_as, arrived}
use Rattle.arrival.proofs.ReasonLaws.{rejected-quote}
use Rattle.arrival.proofs.TakeLaws.{took-all, took-tells}
use Rattle.arrival.proofs.CutLaws.{OfMaker, of-maker, quote-all}
use Rattle.arrival.proofs.ArriveKeeps.{goes_on}

-- x has the number of an entry of l, as what rested there has whatever became of it
pub record Was (l : List Entry) (x : Entry) : Type 0 where
  pub place : ℕ
  pub entry : Entry
  pub there : At l place entry
  pub number : entry.number ≡ x.number

was-start : (l : List Entry) → All (Was l) l
was-start l = all_of (Was l) l (λ i x h. record { place = i; entry = x; there = h; number = refl })

-- why the rest of an arrival was stopped: it was not rejected, so much of it was left behind its trades, and that is the reason there
pub record RestStopped (t : Terms) (e : Entry) (l : List Entry) (why left : ℕ) : Type 0 where
  pub enters : rejection t e l ≡ 0
  pub reason : stop_for t e (trades_of t e l).final.book ≡ why
  pub rest : (trades_of t e l).final.left ≡ left
  pub stops : 1 ≤ why
  pub some : 1 ≤ left

-- P of every report that an arrival may give, with why it gives it; a quote of its maker is cancelled with 27, 29 or 30
pub record SaysWhy (t : Terms) (e : Entry) (l : List Entry) (P : Report → Type 0) : Type 0 where
  pub rejects : quote e ≡ true → (why : ℕ) → 1 ≤ why → rejection t e l ≡ why → P (rejected why e)
  pub cancels : quote e ≡ true → (why : ℕ) → 27 ≤ why → (s : Bool) (x : Entry) → OfMaker e.party s x → Was l x → P (cancelled why x)
  pub trades : minds e.kind ≡ false → (y : Entry) (q : ℕ) → reaches e.sell (bound (market_of t) e) y.working ≡ true → P (traded e y q)
  pub rests : (left : ℕ) → stop_for t e (trades_of t e l).final.book ≡ 0 → P (rested (as_posted e left (prices_of t e (trades_of t e l).final.book)))
  pub stops : (why left : ℕ) → RestStopped t e l why left → P (cancelled why (with_quantity left e))

module _ (t : Terms) (e : Entry) (l : List Entry) (P : Report → Type 0) (s : SaysWhy t e l P) where
  cut-says : quote e ≡ true → (why : ℕ) → 27 ≤ why → (side : Bool) (r : List Entry) → All (Was l) r → All P (cut_quote why e.party side r).records
  unfolding cut still
  cut-says q why own side r a = go (quote_in e.party side r) (quote-tells r e.party side)
    where
      go : (f : Found Entry) → Tells (quote_of e.party side) (λ _. 0) r f → All P (cut why r f).records
      go nowhere c = tt
      go (found i x) c = (s.cancels q why own side x (of-maker e.party side x c.passes) (all-at (Was l) r i x a c.there), tt)

  quotes-say : (why : ℕ) → 27 ≤ why → (side : Bool) (r : List Entry) → All (Was l) r → All P (of_quotes e (cut_quote why e.party side) r).records
  unfolding still
  quotes-say why own side r a =
      cond_either (λ (x : Ran (List Entry) Report). All P x.records) (quote e) (cut_quote why e.party side r) (still r)
      (λ q. cut-says q why own side r a) (λ q. tt)

  finished-says : (left why : ℕ) (r : List Entry) → All (Was l) r → (why ≡ 0 → P (rested (as_posted e left (prices_of t e r))))
      → (1 ≤ why → 1 ≤ left → P (cancelled why (with_quantity left e))) → All P (finished t e left why r).records
  unfolding still
  finished-says zero why r a f g = tt
  finished-says (suc left) zero r a f g = (f refl, tt)
  finished-says (suc left) (suc why) r a f g = (g (omega arith) (omega arith), quotes-say 29 (omega arith) (not e.sell) r a)

  -- those that rest are of those that rested, all the way
  replaced-were : All (Was l) (replaced e l).final
  unfolding still
  replaced-were =
      cond_either (λ (x : Ran (List Entry) Report). All (Was l) x.final) (quote e) (cut_quote 27 e.party e.sell l) (still l)
      (λ q. quote-all 27 e.party e.sell l (Was l) (was-start l)) (λ q. was-start l)

  traded-were : All (Was l) (trades_of t e l).final.book
  traded-were =
      took-all (market_of t) e (replaced e l).final (Was l)
      (λ q x h w. record { place = w.place; entry = w.entry; there = w.there; number = w.number }) replaced-were

  entered-says : rejection t e l ≡ 0 → All P (entered t e l).records
  unfolding entered
  entered-says passes =
      let x : Ran Taking Report = trades_of t e l in
      all_append P (replaced e l).records (goes_on t e (replaced e l).final).records (quotes-say 27 (omega arith) e.sell l (was-start l))
      (all_append P x.records (finished t e x.final.left (stop_for t e x.final.book) x.final.book).records
      (took-tells (market_of t) e (replaced e l).final P s.trades)
      (finished-says x.final.left (stop_for t e x.final.book) x.final.book traded-were (λ h. s.rests x.final.left h)
      (λ some more. s.stops (stop_for t e x.final.book) x.final.left
      (record { enters = passes; reason = refl; rest = refl; stops = some; some = more }))))

  rejected-says : quote e ≡ true → (why : ℕ) → 1 ≤ why → rejection t e l ≡ why → All P (rejected_by why e l).records
  unfolding rejected_by
  rejected-says q why some h = (s.rejects q why some h, pick (both_quotes why))
    where
      pick : (b : Bool)
          → All P
          ((cond b (λ (r : List Entry). and_then (cut_quote 30 e.party false r) (cut_quote 30 e.party true)) (cut_quote 30 e.party e.sell))
          l).records
      pick true =
          all_append P (cut_quote 30 e.party false l).records (cut_quote 30 e.party true (cut_quote 30 e.party false l).final).records
          (cut-says q 30 (omega arith) false l (was-start l))
          (cut-says q 30 (omega arith) true (cut_quote 30 e.party false l).final (quote-all 30 e.party false l (Was l) (was-start l)))
      pick false = cut-says q 30 (omega arith) e.sell l (was-start l)

  -- SO EVERY REPORT SAYS IT
  pub arrived-says-why : All P (arrived t e l).records
  unfolding arrived
  arrived-says-why = go (rejection t e l) refl
    where
      go : (why : ℕ) → rejection t e l ≡ why → All P (arrived_as t e l why).records
      go zero h = entered-says h
      go (suc why) h = rejected-says (rejected-quote t e l (omega arith)) (suc why) (omega arith) h

-- P of every report that an arrival may give, whyever it gives it
pub record Says (t : Terms) (e : Entry) (l : List Entry) (P : Report → Type 0) : Type 0 where
  pub rejects : quote e ≡ true → (why : ℕ) → P (rejected why e)
  pub cancels : quote e ≡ true → (why : ℕ) (s : Bool) (x : Entry) → OfMaker e.party s x → P (cancelled why x)
  pub trades : minds e.kind ≡ false → (y : Entry) (q : ℕ) → reaches e.sell (bound (market_of t) e) y.working ≡ true → P (traded e y q)
  pub rests : (left : ℕ) → stop_for t e (trades_of t e l).final.book ≡ 0 → P (rested (as_posted e left (prices_of t e (trades_of t e l).final.book)))
  pub stops : (why left : ℕ) → P (cancelled why (with_quantity left e))

pub arrived-says : (t : Terms) (e : Entry) (l : List Entry) (P : Report → Type 0) → Says t e l P → All P (arrived t e l).records
arrived-says t e l P s =
    arrived-says-why t e l P (record {
      rejects = λ q why _ _. s.rejects q why;
      cancels = λ q why own side x o _. s.cancels q why side x o;
      trades = s.trades;
      rests = s.rests;
      stops = λ why left _. s.stops why left;
    })
