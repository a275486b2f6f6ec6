-- WHY A REST IS STOPPED AND WHY A QUOTE IS REJECTED, IN PLAIN INEQUALITIES, both ways: the reason told is n exactly when what n says holds and what no reason
-- before it in document 01's order says does.
-- Assumes nothing.
use Prim.Native.Nat.{ℕ, ◌≤◌}
use mathlib.Core.Path.{◌≡◌, refl, sym, ap, ap₂, subst, ◌∙◌}
use mathlib.Core.Bool.{Bool, true, false, cond, not, ◌&&◌, ◌||◌}
use mathlib.Core.List.{List, [], ◌∷◌, ◌++◌}
use native.Mathlib.Omega.{arith}
use lib.Dec.{eqb}
use borrow.Author.Tests.{ne_eqb, not-true}
use Rattle.prices.specs.declared.Market.{Market}
use Rattle.prices.specs.declared.Prices.{Prices}
use Rattle.prices.specs.Side.{reaches, away, Short}
use Rattle.prices.specs.Step.{steps_of, back}
use Rattle.prices.specs.Aims.{aims}
use Rattle.prices.specs.Test.{Test, holds, only_for, answers, reason_of}
use Rattle.prices.specs.Protect.{bars}
use Rattle.prices.specs.Post.{stopped}
use Rattle.kinds.specs.Kinds.{minds, sliding}
use Rattle.prices.proofs.FrameLaws.{reaches-false, unreached, seen-short, short-seen}
use Rattle.prices.proofs.GridLaws.{OnGrid}
use Rattle.prices.proofs.CountLaws.{after}
use Rattle.prices.proofs.StepLaws.{Legal, is-legal}
use Rattle.prices.proofs.AimLaws.{aimed}
use Rattle.prices.proofs.ProtectLaws.{Barred, bars-decide, barred-high, bar_order}
use Rattle.prices.proofs.StopLaws.{Stopped, far-shown, is-22, decides-22, far-counted, stops-decide, stopped-first, stopped-low, stop_order}
use Rattle.lists.specs.Places.{At}
use Rattle.lists.specs.Tests.{first_holding}
use Rattle.lists.specs.Choose.{Found, nowhere, found}
use Rattle.lists.proofs.Bools.{clash, and_left, and_right, and_both}
use Rattle.lists.proofs.TestLaws.{all_append}
use Rattle.lists.proofs.FirstLaws.{only-first, Decides, AllDecide, only_if, only-if-decides, TellsFirst, tells_first}
use Rattle.book.specs.declared.Entry.{Entry}
use Rattle.book.specs.Entries.{quote}
use Rattle.book.specs.Look.{contra, eligible, best_contra, national}
use Rattle.book.proofs.LookLaws.{ContraTells, contra-tells}
use Rattle.soundness_theory.proofs.Facts.{Sound}
use Rattle.soundness_theory.proofs.FrontLaws.{cost-is, if-any-contra}
use Rattle.soundness_theory.proofs.KeepLaws.{here-facts}
use Rattle.soundness_theory.proofs.MarketFacts.{MarketFacts, sound-for}
use Rattle.terms.specs.declared.Terms.{Terms}
use Rattle.terms.specs.Terms.{market_of, guard_of}
use Rattle.arrival.specs.Take.{bound, shown_only, took}
use Rattle.arrival.specs.Post.{prices_of, hidden_for, stops_in, stop_for}
use Rattle.arrival.specs.Arrive.{none_traded, stops_at_once, protection_for, or_else, rejection}
use Rattle.arrival.specs.Asks.{Arriving}
use Rattle.arrival.proofs.ReasonLaws.{or-else-first}
use Rattle.arrival.proofs.TakeLaws.{within_bound, takes-now}
use Rattle.arrival.proofs.PostLaws.{bound-high}
use Rattle.arrival.proofs.HiddenLaws.{HiddenInWay, decides-21}

-- ---- why what is left may not rest ----

module _ (t : Terms) (e : Entry) (l : List Entry) where
  -- what each reason says, before the book that the trades have left
  abbrev pub StoppedIn : ℕ → Type 0
  StoppedIn n =
      Stopped t.m t.k e.kind e.sell e.limit (away (market_of t) e.sell) (HiddenInWay e l) (prices_of t e l).display n

  -- THE REASON TOLD IS THE FIRST THAT HOLDS, of 20, 21, 23 and 22, in a sound book
  pub stop-first : {m top : ℕ} → Sound m top l → TellsFirst StoppedIn stop_order (stop_for t e l)
  unfolding stop_for stopped
  stop-first so =
      stopped-first t.m t.k e.kind e.sell e.limit (away (market_of t) e.sell) (hidden_for e l) (HiddenInWay e l) (prices_of t e l).display
      (decides-21 e l so)

  -- the display that it would get lies on the grid
  display-on : {top : ℕ} → MarketFacts (market_of t) → Sound t.m top l → Legal t.m e.limit → OnGrid (steps_of t.m) (prices_of t e l).display
  display-on k so a = go (sliding e.kind)
    where
      aim : Prices
      aim = aims t.m e.kind e.sell e.limit (away (market_of t) e.sell) (contra e.sell l)

      go : (b : Bool) → OnGrid (steps_of t.m) (cond b aim (record { display = e.limit; working = e.limit })).display
      go true = (aimed e.kind e.sell k.step a (k.legal e.sell) (if-any-contra e.sell so)).near-display.on
      go false = a.grid

  -- 22, COUNTED ONE BY ONE: it says that the display would lie short of the price K steps back from the limit, in every sound book
  pub far-in : {top : ℕ} → MarketFacts (market_of t) → Sound t.m top l → Legal t.m e.limit
      → (StoppedIn 22 → Short e.sell (prices_of t e l).display (after t.k (back t.m e.sell) e.limit))
      × (sliding e.kind ≡ true → Short e.sell (prices_of t e l).display (after t.k (back t.m e.sell) e.limit) → StoppedIn 22)
  far-in k so a =
      let d : ℕ = (prices_of t e l).display in
      let f = far-counted t.k e.kind e.sell k.step a (display-on k so a) in
      let g = decides-22 t.m t.k e.kind e.sell e.limit d in
      (λ h. (f.0 (g.1 (is-22 h))).1, λ q h. far-shown (g.0 (f.1 (q, h))))

  -- ---- why an arrival is rejected ----

  abbrev pub BarredIn : ℕ → Type 0
  BarredIn n = Barred (guard_of t) e.sell (national e.sell (away (market_of t) e.sell) l) e.limit n

-- what each reason says, before the book that the message found
pub data RejectedFor (t : Terms) (e : Entry) (l : List Entry) : ℕ → Type 0 where
  -- "Price protection comes first, for quotes only"
  protected : {n : ℕ} → quote e ≡ true → BarredIn t e l n → RejectedFor t e l n
  -- "A quote so stopped with nothing traded is rejected"
  stopped-at-once : {n : ℕ} → quote e ≡ true → none_traded (took (market_of t) e l).records ≡ true → StoppedIn t e l n → RejectedFor t e l n

-- tests that are put only where q is so, of a table and of its answers
first-only : (s q : Bool) (xs : List Test) → reason_of s (only_for q xs) ≡ first_holding (only_if q (answers s xs))
first-only s q [] = refl
first-only s true (x ∷ xs) = ap (cond (holds s x) x.rule) (first-only s true xs)
first-only s false (x ∷ xs) = first-only s false xs

-- 25, 26, 24, and then 20, 21, 23, 22
abbrev pub reject_order : List ℕ
reject_order = bar_order ++ stop_order

module _ (t : Terms) (e : Entry) (l : List Entry) where
  -- a reason from 24 on is price protection's, one up to 23 is that of a rest that is stopped
  pub of-protection : (n : ℕ) → 24 ≤ n → RejectedFor t e l n → (quote e ≡ true) × BarredIn t e l n
  of-protection n h (protected q b) = (q, b)
  of-protection n h (stopped-at-once q u s) = absurd (omega (arith, stopped-low s))

  pub of-stop : (n : ℕ) → n ≤ 23 → RejectedFor t e l n → ((quote e && none_traded (took (market_of t) e l).records) ≡ true) × StoppedIn t e l n
  of-stop n h (protected q b) = absurd (omega (arith, barred-high b))
  of-stop n h (stopped-at-once q u s) = (and_both (quote e) _ q u, s)

  abbrev barring : List (ℕ × Bool)
  barring = answers e.sell (bars (guard_of t) e.sell (national e.sell (away (market_of t) e.sell) l) e.limit)

  abbrev stopping : List (ℕ × Bool)
  stopping = answers e.sell (stops_in t e l)

  abbrev at_once : Bool
  at_once = quote e && none_traded (took (market_of t) e l).records

  -- the tests, in order
  abbrev tests : List (ℕ × Bool)
  tests = only_if (quote e) barring ++ only_if at_once stopping

  tests-decide : {m top : ℕ} → Sound m top l → AllDecide (RejectedFor t e l) tests
  tests-decide so =
      all_append (λ (u : ℕ × Bool). Decides u.1 (RejectedFor t e l u.0)) (only_if (quote e) barring) (only_if at_once stopping)
      (only-if-decides (quote e) (BarredIn t e l) (RejectedFor t e l) (λ (n : ℕ). 24 ≤ n) (λ n q b. protected q b) of-protection barring
      (omega arith, (omega arith, (omega arith, tt)))
      (bars-decide (guard_of t) e.sell (national e.sell (away (market_of t) e.sell) l) e.limit))
      (only-if-decides at_once (StoppedIn t e l) (RejectedFor t e l) (λ (n : ℕ). n ≤ 23)
      (λ n q s. stopped-at-once (and_left (quote e) _ q) (and_right (quote e) _ q) s) of-stop stopping
      (omega arith, (omega arith, (omega arith, (omega arith, tt))))
      (stops-decide t.m t.k e.kind e.sell e.limit (away (market_of t) e.sell) (hidden_for e l) (HiddenInWay e l) (prices_of t e l).display
      (decides-21 e l so)))

  first-of-tests : rejection t e l ≡ first_holding tests
  unfolding rejection protection_for stops_at_once stop_for
  first-of-tests =
      ap₂ or_else
      (first-only e.sell (quote e) (bars (guard_of t) e.sell (national e.sell (away (market_of t) e.sell) l) e.limit))
      (sym (only-first at_once stopping))
      ∙ or-else-first (only_if (quote e) barring) (only_if at_once stopping) (omega arith, (omega arith, (omega arith, tt)))

  -- THE REASON TOLD IS THE FIRST THAT HOLDS, of 25, 26, 24, 20, 21, 23 and 22, in a sound book
  pub rejection-first : {m top : ℕ} → Sound m top l → TellsFirst (RejectedFor t e l) reject_order (rejection t e l)
  rejection-first so =
      subst (TellsFirst (RejectedFor t e l) reject_order) (sym first-of-tests)
      (tells_first (RejectedFor t e l) tests (tests-decide so)
      (omega arith, (omega arith, (omega arith, (omega arith, (omega arith, (omega arith, (omega arith, tt))))))))

-- ---- when nothing would trade: "Then MMALO: aims, no trade. Others trade with sells at or below the lesser of L and A." ----

-- whatever it may trade with works beyond its bound
abbrev pub NothingInReach : Market → Entry → List Entry → Type 0
NothingInReach k e l =
    minds e.kind ≡ false → (i : ℕ) (y : Entry) → At l i y → eligible e.sell (shown_only e) y ≡ true → Short e.sell (bound k e) y.working

module _ {m top : ℕ} (k : Market) (e : Entry) (l : List Entry) (so : Sound m top l) (high : bound k e ≤ 200000) where
  within-decides : (f : Found Entry) → ContraTells e.sell (shown_only e) l f
      → Decides (not (within_bound (bound k e) e f))
      ((i : ℕ) (y : Entry) → At l i y → eligible e.sell (shown_only e) y ≡ true → Short e.sell (bound k e) y.working)
  within-decides nowhere c = (λ _ i y at p. clash p (c.nobody i y at), λ _. refl)
  within-decides (found j z) c = (
    λ h i y at p.
        seen-short e.sell (bound k e) y.working (omega (
          arith,
          reaches-false e.sell (bound k e) z.working high (omega (arith, (here-facts so j z c.chosen.there).works.high))
              (not-true (reaches e.sell (bound k e) z.working) h),
          c.price i y at p,
          cost-is e.sell y.working,
          cost-is e.sell z.working,
        )),
    λ far.
        rw (unreached e.sell (bound k e) z.working
        (short-seen e.sell (bound k e) z.working high (far j z c.chosen.there c.chosen.passes))),
  )

-- NOTHING TRADES EXACTLY IF NOTHING IS IN REACH
pub decides-untraded : (t : Terms) (e : Entry) (l : List Entry) → Arriving t e l
    → Decides (none_traded (took (market_of t) e l).records) (NothingInReach (market_of t) e l)
decides-untraded t e l a =
    subst (λ (b : Bool). Decides b (NothingInReach (market_of t) e l)) (sym (takes-now (market_of t) e l ∙ some_left)) (by (minds e.kind) refl)
  where
    far : Bool
    far = not (within_bound (bound (market_of t) e) e (best_contra e.sell (shown_only e) l))

    some_left : (minds e.kind || (eqb e.quantity 0 || far)) ≡ (minds e.kind || far)
    some_left = rw (ne_eqb e.quantity 0 (λ z. omega (arith, a.some, z))) refl

    facts : MarketFacts (market_of t) × Sound t.m t.given l
    facts = sound-for (record { top = t.given; market = a.market; entries = a.entries })

    by : (b : Bool) → minds e.kind ≡ b → Decides (b || far) (NothingInReach (market_of t) e l)
    by true q = (λ _ mi. clash q mi, λ _. refl)
    by false q =
        let d = within-decides (market_of t) e l facts.1 (bound-high (market_of t) e (is-legal t.m e.limit a.limit) (facts.0.legal e.sell))
        (best_contra e.sell (shown_only e) l) (contra-tells e.sell (shown_only e) l) in
        (λ h _. d.0 h, λ none. d.1 (none q))
