-- Which reasons there are: what stops a rest, 20 to 23; what rejects, 20 to 26; and that only quotes are rejected.
-- Assumes nothing.
use Prim.Native.Nat.{ℕ, zero, suc, ◌≤◌}
use mathlib.Core.Path.{◌≡◌, refl, sym, ◌∙◌}
use mathlib.Core.Bool.{Bool, true, false, ◌&&◌}
use mathlib.Core.List.{List, [], ◌∷◌, ◌++◌}
use native.Mathlib.Omega.{arith}
use Rattle.prices.specs.Test.{answers}
use Rattle.lists.specs.Tests.{All, first_holding}
use Rattle.lists.proofs.Bools.{cond_either}
use Rattle.lists.proofs.FirstLaws.{first-none, first-front, first-behind}
use Rattle.book.specs.declared.Entry.{Entry}
use Rattle.book.specs.Entries.{quote}
use Rattle.terms.specs.declared.Terms.{Terms}
use Rattle.terms.specs.Terms.{market_of}
use Rattle.arrival.specs.Take.{took}
use Rattle.arrival.specs.Post.{stops_in, stop_for}
use Rattle.arrival.specs.Arrive.{none_traded, stops_at_once, bars_in, protection_for, or_else, rejection}

-- a reason, if there is one, is between these
pub record Among (low high why : ℕ) : Type 0 where
  pub most : why ≤ high
  pub least : 1 ≤ why → low ≤ why

none-among : (low high : ℕ) → Among low high 0
none-among low high = record { most = omega arith; least = λ h. absurd (omega arith) }

-- the first of some tests, and where none applies the first of those behind them
pub or-else-first : (ts us : List (ℕ × Bool)) → All (λ (t : ℕ × Bool). 1 ≤ t.0) ts → or_else (first_holding ts) (first_holding us) ≡ first_holding (ts ++ us)
or-else-first ts us some = by (first_holding ts) refl
  where
    by : (n : ℕ) → first_holding ts ≡ n → or_else n (first_holding us) ≡ first_holding (ts ++ us)
    by zero h = sym (first-behind ts us (first-none ts some h))
    by (suc n) h = sym (first-front ts us (λ z. absurd (omega arith)) ∙ h)

-- the first that applies of tests whose numbers are between these
first-among : (low high : ℕ) → (ts : List (ℕ × Bool)) → All (λ (t : ℕ × Bool). (low ≤ t.0) × (t.0 ≤ high)) ts → Among low high (first_holding ts)
first-among low high [] a = none-among low high
first-among low high (t ∷ ts) a =
    cond_either (Among low high) t.1 t.0 (first_holding ts) (λ q. record { most = a.0.1; least = λ h. a.0.0 })
    (λ q. first-among low high ts a.1)

-- "20, .. 21, .. 23, .. 22"
pub stop-among : (t : Terms) (e : Entry) (l : List Entry) → Among 20 23 (stop_for t e l)
unfolding stop_for
stop-among t e l =
    first-among 20 23 (answers e.sell (stops_in t e l))
    ((omega arith, omega arith), ((omega arith, omega arith), ((omega arith, omega arith), ((omega arith, omega arith), tt))))

-- "25: .. 26: .. 24: .."
pub protection-among : (t : Terms) (e : Entry) (l : List Entry) → Among 24 26 (protection_for t e l)
unfolding protection_for
protection-among t e l =
    first-among 24 26 (answers e.sell (bars_in t e l))
    ((omega arith, omega arith), ((omega arith, omega arith), ((omega arith, omega arith), tt)))

pub at-once-among : (t : Terms) (e : Entry) (l : List Entry) → Among 20 23 (stops_at_once t e l)
unfolding stops_at_once
at-once-among t e l =
    cond_either (Among 20 23) (quote e && none_traded (took (market_of t) e l).records) (stop_for t e l) 0 (λ q. stop-among t e l) (λ q. none-among 20 23)

-- WHY AN ARRIVAL IS REJECTED, 20 to 26
pub rejection-among : (t : Terms) (e : Entry) (l : List Entry) → Among 20 26 (rejection t e l)
unfolding rejection
rejection-among t e l = go (protection_for t e l) (protection-among t e l) (stops_at_once t e l) (at-once-among t e l)
  where
    go : (n : ℕ) → Among 24 26 n → (k : ℕ) → Among 20 23 k → Among 20 26 (or_else n k)
    go zero a k b = record { most = omega (arith, b.most); least = λ h. b.least h }
    go (suc n) a k b = record { most = a.most; least = λ h. omega (arith, a.least h) }

-- "Price protection comes first, for quotes only", and "An order's rest is just cancelled": an order is never rejected
pub order-passes : (t : Terms) (e : Entry) (l : List Entry) → quote e ≡ false → rejection t e l ≡ 0
unfolding rejection protection_for stops_at_once
order-passes t e l q = rw q refl

pub rejected-quote : (t : Terms) (e : Entry) (l : List Entry) → 1 ≤ rejection t e l → quote e ≡ true
rejected-quote t e l h = go (quote e) refl
  where
    go : (b : Bool) → quote e ≡ b → b ≡ true
    go true q = refl
    go false q = absurd (omega (arith, order-passes t e l q))
