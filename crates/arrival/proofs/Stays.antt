-- WHAT BECOMES OF AN ENTRY THAT RESTS WHEN ANOTHER ARRIVES: from its trades it comes with its number, or one of them names it; and an order leaves everybody
-- else so.
-- Assumes nothing.
use Prim.Native.Nat.{ℕ, zero, suc, min}
use mathlib.Core.Path.{◌≡◌, refl, ap, ◌∙◌}
use mathlib.Core.Bool.{Bool, true, false}
use mathlib.Core.List.{List, [], ◌∷◌}
use mathlib.Core.Logic.{◌⊎◌, inl, inr}
use lib.Dec.{eqb}
use borrow.Author.Tests.{eqb-true, eqb-false}
use Rattle.prices.specs.declared.Market.{Market}
use Rattle.lists.specs.Run.{Ran, still, and_then}
use Rattle.lists.proofs.PlaceLaws.{at_same, at_left}
use Rattle.packing.specs.declared.report.Report.{Report}
use Rattle.book.specs.declared.Entry.{Entry}
use Rattle.book.specs.Entries.{quote}
use Rattle.book.specs.Change.{hit}
use Rattle.telling.proofs.Staying.{Numbered, TradeNames, TradeNamed, hit-stays, run-stays, named-left}
use Rattle.terms.specs.declared.Terms.{Terms}
use Rattle.terms.specs.Terms.{market_of}
use Rattle.arrival.specs.Take.{Taking, bound, took}
use Rattle.arrival.specs.Post.{prices_of, as_posted, stop_for}
use Rattle.arrival.specs.Arrive.{finished, entered, arrived}
use Rattle.arrival.proofs.ReasonLaws.{order-passes}
use Rattle.arrival.proofs.TakeLaws.{TakeStep, takes-from, take_step, take-run, took-either}

take-stays : {cap : ℕ} {e : Entry} {t u : Taking} {r : Report} (n : ℕ) → TakeStep cap e t r u → Numbered t.book n → Numbered u.book n ⊎ TradeNames n r
take-stays {e = e} {t = t} n (takes-from {j = j} {y = y} c some within) h = go (eqb y.number n) refl
  where
    go : (b : Bool) → eqb y.number n ≡ b → Numbered (hit j (min t.left y.quantity) t.book) n ⊎ ((e.number ≡ n) ⊎ (y.number ≡ n))
    go true q = inr (inr (eqb-true y.number n q))
    go false q =
        inl (hit-stays j (min t.left y.quantity) t.book n
        (λ z a k. eqb-false y.number n q (ap (λ (w : Entry). w.number) (at_same t.book j y z c.chosen.there a) ∙ k)) h)

-- AN ENTRY LEAVES BY A TRADE THAT NAMES IT
pub took-stays : (k : Market) (e : Entry) (l : List Entry) (n : ℕ) → Numbered l n → Numbered (took k e l).final.book n ⊎ TradeNamed (took k e l).records n
unfolding still
took-stays k e l n h =
    took-either k e l (λ (x : Ran Taking Report). Numbered x.final.book n ⊎ TradeNamed x.records n) (λ _. inl h)
    (λ _. run-stays (λ (t : Taking). t.book) n (λ s r t g x. take-stays n (take_step (bound k e) e s g) x)
    (take-run (bound k e) e (record { left = e.quantity; book = l })) h)

-- AN ORDER MOVES NOBODY ELSE: who rested when it came rests still, or a trade of it names them
pub order-stays : (t : Terms) (e : Entry) (l : List Entry) → quote e ≡ false → (n : ℕ) → Numbered l n
    → Numbered (arrived t e l).final n ⊎ TradeNamed (arrived t e l).records n
unfolding arrived entered still
order-stays t e l q n h = rw (order-passes t e l q, q) (on (took-stays (market_of t) e l n h) x.final.left (stop_for t e x.final.book))
  where
    x : Ran Taking Report
    x = took (market_of t) e l

    on : Numbered x.final.book n ⊎ TradeNamed x.records n → (left why : ℕ)
        → Numbered (finished t e left why x.final.book).final n
        ⊎ TradeNamed (and_then (record { final = x.final.book; records = x.records }) (finished t e left why)).records n
    on (inr z) left why = inr (named-left x.records (finished t e left why x.final.book).records z)
    on (inl z) zero why = inl z
    on (inl z) (suc left) zero = inl (record {
      place = z.place;
      entry = z.entry;
      there = at_left x.final.book (as_posted e (suc left) (prices_of t e x.final.book) ∷ []) z.place z.entry z.there;
      number = z.number;
    })
    on (inl z) (suc left) (suc why) = inl (rw q z)
