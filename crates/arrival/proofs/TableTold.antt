-- THE REASON TOLD IS THAT OF THE FIRST TEST OF THE TABLE THAT HOLDS, with the two figures that it compared: of a rejection before the book that the message
-- found, of a rest that is stopped before the book that its trades left.
-- Assumes nothing.
use Prim.Native.Nat.{ℕ, zero, suc, ◌≤◌}
use mathlib.Core.Path.{◌≡◌, sym, subst, ◌∙◌}
use mathlib.Core.Bool.{Bool, true, false, cond, ◌&&◌}
use mathlib.Core.List.{List}
use native.Mathlib.Omega.{arith}
use Rattle.prices.specs.Test.{answers, reason_of, figures_of}
use Rattle.prices.proofs.StopLaws.{is-21}
use Rattle.prices.proofs.TableLaws.{FirstTest, Apart, reason-first, figures-none}
use Rattle.book.specs.declared.Entry.{Entry}
use Rattle.book.specs.Entries.{quote}
use Rattle.terms.specs.declared.Terms.{Terms}
use Rattle.terms.specs.Terms.{market_of}
use Rattle.arrival.specs.Take.{took}
use Rattle.arrival.specs.Post.{stops_in, stop_for}
use Rattle.arrival.specs.Arrive.{none_traded, bars_in, protection_for, stops_at_once, or_else, rejection, book_left, tests_put}
use Rattle.arrival.specs.Asks.{Arriving}
use Rattle.arrival.proofs.ReasonLaws.{or-else-first}
use Rattle.arrival.proofs.HiddenLaws.{BestUndisplayed, way-best}
use Rattle.arrival.proofs.StopReasons.{stop-first, rejection-first, of-stop}
use Rattle.arrival.proofs.EnterLaws.{facts-of}
use Rattle.arrival.proofs.ArriveKeeps.{left-sound}
use Rattle.arrival.proofs.ArriveTells.{RestStopped}

-- every rule has one test
tests-apart : (t : Terms) (e : Entry) (found posting : List Entry) → Apart (tests_put t e found posting)
tests-apart t e found posting = (
  (λ z. omega (arith, z), (λ z. omega (arith, z), (λ z. omega (arith, z), (λ z. omega (arith, z), (λ z. omega (arith, z), (λ z. omega (arith, z), tt)))))),
  (
    (λ z. omega (arith, z), (λ z. omega (arith, z), (λ z. omega (arith, z), (λ z. omega (arith, z), (λ z. omega (arith, z), tt))))),
    (
      (λ z. omega (arith, z), (λ z. omega (arith, z), (λ z. omega (arith, z), (λ z. omega (arith, z), tt)))),
      (
        (λ z. omega (arith, z), (λ z. omega (arith, z), (λ z. omega (arith, z), tt))),
        ((λ z. omega (arith, z), (λ z. omega (arith, z), tt)), ((λ z. omega (arith, z), tt), (tt, tt))),
      ),
    ),
  ),
)

-- no test has a number from 27 on
pub no-figures : (t : Terms) (e : Entry) (found posting : List Entry) (n : ℕ) → 27 ≤ n
    → figures_of n (tests_put t e found posting) ≡ record { first = 0; second = 0 }
no-figures t e found posting n h =
    figures-none n (tests_put t e found posting) (
      λ z. omega (arith, z),
      (
        λ z. omega (arith, z),
        (
          λ z. omega (arith, z),
          (
            λ z. omega (arith, z),
            (
              λ z. omega (arith, z),
              (
                λ z. omega (arith, z),
                (
                  λ z.
                      omega (arith, z),
                  tt,
                ),
              ),
            ),
          ),
        ),
      ),
    )

module _ (t : Terms) (e : Entry) (l : List Entry) where
  both : (posting : List Entry) → or_else (protection_for t e l) (stop_for t e posting) ≡ reason_of e.sell (tests_put t e l posting)
  unfolding protection_for stop_for
  both posting =
      or-else-first (answers e.sell (bars_in t e l)) (answers e.sell (stops_in t e posting)) (omega arith, (omega arith, (omega arith, tt)))

  rejected-by : (why : ℕ) → 1 ≤ why → rejection t e l ≡ why → reason_of e.sell (tests_put t e l l) ≡ why
  unfolding rejection stops_at_once
  rejected-by why some h =
      sym (both l) ∙ go (protection_for t e l) (quote e && none_traded (took (market_of t) e l).records) (stop_for t e l) h
    where
      go : (p : ℕ) (b : Bool) (n : ℕ) → or_else p (cond b n 0) ≡ why → or_else p n ≡ why
      go zero true n k = k
      go zero false n k = absurd (omega arith)
      go (suc p) b n k = k

  stopped_by : (why left : ℕ) → RestStopped t e l why left → reason_of e.sell (tests_put t e l (book_left t e l)) ≡ why
  unfolding rejection
  stopped_by why left r = sym (both (book_left t e l)) ∙ go (protection_for t e l) (stops_at_once t e l) r.enters r.reason
    where
      go : (p n : ℕ) → or_else p n ≡ 0 → stop_for t e (book_left t e l) ≡ why → or_else p (stop_for t e (book_left t e l)) ≡ why
      go zero n k q = q
      go (suc p) n k q = absurd (omega arith)

-- what is told of a reason, of the tests put before the book in which it would post: its first test, and of 21 that the second figure is the best
-- undisplayed price
pub record Told (t : Terms) (e : Entry) (found posting : List Entry) (why : ℕ) : Type 0 where
  pub first : FirstTest e.sell (tests_put t e found posting) why (figures_of why (tests_put t e found posting))
  pub best : why ≡ 21 → BestUndisplayed e.sell posting (figures_of why (tests_put t e found posting)).second

module _ {t : Terms} {e : Entry} {l : List Entry} (a : Arriving t e l) where
  pub rejection-told : (why : ℕ) → 1 ≤ why → rejection t e l ≡ why → Told t e l l why
  unfolding figures_of
  rejection-told why some h = record {
    first = reason-first e.sell (tests_put t e l l) (tests-apart t e l l) why some (rejected-by t e l why some h);
    best = λ q. subst (λ (n : ℕ). BestUndisplayed e.sell l (figures_of n (tests_put t e l l)).second) (sym q)
        (way-best e l (facts-of a).1
        (is-21 (of-stop t e l 21 (omega arith) ((rejection-first t e l (facts-of a).1).told 21 (omega arith) (h ∙ q)).holds).1));
  }

  pub rest-told : (why left : ℕ) → RestStopped t e l why left → Told t e l (book_left t e l) why
  unfolding figures_of
  rest-told why left r = record {
    first = reason-first e.sell (tests_put t e l (book_left t e l)) (tests-apart t e l (book_left t e l)) why r.stops (stopped_by t e l why left r);
    best = λ q. subst (λ (n : ℕ). BestUndisplayed e.sell (book_left t e l) (figures_of n (tests_put t e l (book_left t e l))).second) (sym q)
        (way-best e (book_left t e l) (left-sound a)
        (is-21 ((stop-first t e (book_left t e l) (left-sound a)).told 21 (omega arith) (r.reason ∙ q)).holds));
  }
