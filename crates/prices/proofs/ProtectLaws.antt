-- PRICE PROTECTION IN PLAIN INEQUALITIES, both ways: a quote is told 25, 26 or 24 exactly when that test holds and none before it does.
-- Assumes nothing.
use Prim.Native.Nat.{ℕ, ◌+◌, ◌-◌, ◌*◌, ◌≤◌, ◌<◌}
use mathlib.Core.Path.{◌≡◌, refl}
use mathlib.Core.Bool.{Bool, true, false, cond, not}
use mathlib.Core.List.{List, [], ◌∷◌}
use native.Mathlib.Omega.{arith}
use lib.Dec.{eqb, leb, ltb}
use borrow.Author.Tests.{leb-true, leb-false, ltb-true, eqb-false, le-leb, lt-ltb, ne_eqb, not-true}
use Rattle.lists.proofs.Bools.{and_left, and_right}
use Rattle.lists.proofs.FirstLaws.{Decides, AllDecide, TellsFirst, tells_first}
use Rattle.prices.specs.declared.Guard.{Guard}
use Rattle.prices.specs.Test.{holds, answers, compared, at_least}
use Rattle.prices.specs.Protect.{test25, test26, test24, figures24, limited24, bars, protection}

-- ---- 25: "call, not exempt, underlying known, bid at or above it" ----

pub record AboveUnderlying (g : Guard) (s : Bool) (bid : ℕ) : Type 0 where
  pub buys : s ≡ false
  pub call : g.put ≡ false
  pub bound : g.exempt ≡ false
  pub known : 1 ≤ g.underlying
  pub above : g.underlying ≤ bid

pub decides-25 : (g : Guard) (s : Bool) (bid : ℕ) → Decides (holds s (test25 g s bid)) (AboveUnderlying g s bid)
decides-25 g s bid = (told, tells)
  where
    told : holds s (test25 g s bid) ≡ true → AboveUnderlying g s bid
    told a =
        let p = and_left (test25 g s bid).posed _ a in
        let b = and_right (not s) _ p in
        let c = and_right (not g.put) _ b in
        record {
          buys = not-true s (and_left (not s) _ p);
          call = not-true g.put (and_left (not g.put) _ b);
          bound = not-true g.exempt (and_left (not g.exempt) _ c);
          known = omega (arith, eqb-false g.underlying 0 (not-true (eqb g.underlying 0) (and_right (not g.exempt) _ c)));
          above = leb-true g.underlying bid (and_right (test25 g s bid).posed _ a);
        }

    tells : AboveUnderlying g s bid → holds s (test25 g s bid) ≡ true
    tells a =
        rw (a.buys, a.call, a.bound, ne_eqb g.underlying 0 (λ z. omega (arith, a.known, z)), le-leb g.underlying bid a.above) refl

-- ---- 26: "put, not exempt, bid at or above strike" ----

pub record AboveStrike (g : Guard) (s : Bool) (bid : ℕ) : Type 0 where
  pub buys : s ≡ false
  pub is-put : g.put ≡ true
  pub bound : g.exempt ≡ false
  pub above : g.strike ≤ bid

pub decides-26 : (g : Guard) (s : Bool) (bid : ℕ) → Decides (holds s (test26 g s bid)) (AboveStrike g s bid)
decides-26 g s bid = (told, λ a. rw (a.buys, a.is-put, a.bound, le-leb g.strike bid a.above) refl)
  where
    told : holds s (test26 g s bid) ≡ true → AboveStrike g s bid
    told a =
        let p = and_left (test26 g s bid).posed _ a in
        let b = and_right (not s) _ p in
        record {
          buys = not-true s (and_left (not s) _ p);
          is-put = and_left g.put _ b;
          bound = not-true g.exempt (and_right g.put _ b);
          above = leb-true g.strike bid (and_right (test26 g s bid).posed _ a);
        }

-- ---- 24 ----

-- "bid, NBO at most 100: bid at least NBO+100. NBO above 100: twice (bid-NBO) at least NBO."
pub record FarBid (nbo bid : ℕ) : Type 0 where
  pub known : 1 ≤ nbo
  pub low : nbo ≤ 100 → nbo + 100 ≤ bid
  pub high : 100 < nbo → 3 * nbo ≤ 2 * bid

-- "Offer, NBB above 100: twice (NBB-offer) at least NBB; NBB at most 100, no limit."
pub record FarOffer (nbb offer : ℕ) : Type 0 where
  pub limited : 100 < nbb
  pub far : 2 * offer ≤ nbb

-- a bid, before the NBO; an offer, before the NBB
abbrev pub TooFar : Bool → ℕ → ℕ → Type 0
TooFar false nbo bid = FarBid nbo bid
TooFar true nbb offer = FarOffer nbb offer

pub decides-24 : (s : Bool) (best limit : ℕ) → Decides (holds s (test24 s best limit)) (TooFar s best limit)
unfolding limited24 figures24
decides-24 false nbo bid = (told, tells)
  where
    told : holds false (test24 false nbo bid) ≡ true → FarBid nbo bid
    told a =
        let k : nbo ≡ 0 → ⊥ = eqb-false nbo 0 (not-true (eqb nbo 0) (and_left (not (eqb nbo 0)) _ a)) in
        by (leb nbo 100) refl k (and_right (not (eqb nbo 0)) _ a)
      where
        by : (b : Bool) → leb nbo 100 ≡ b → (nbo ≡ 0 → ⊥)
            → compared at_least false (cond b (record { first = bid; second = nbo + 100 }) (record { first = 2 * (bid - nbo); second = nbo })) ≡ true
            → FarBid nbo bid
        by true q k f = record {
          known = omega (arith, k);
          low = λ _. leb-true (nbo + 100) bid f;
          high = λ z. absurd (omega (arith, leb-true nbo 100 q));
        }
        by false q k f = record {
          known = omega (arith, k);
          low = λ z. absurd (omega (arith, leb-false nbo 100 q));
          high = λ _. omega (arith, leb-true nbo (2 * (bid - nbo)) f);
        }

    tells : FarBid nbo bid → holds false (test24 false nbo bid) ≡ true
    tells f = rw (ne_eqb nbo 0 (λ z. omega (arith, f.known, z))) (by (leb nbo 100) refl)
      where
        by : (b : Bool) → leb nbo 100 ≡ b
            → compared at_least false (cond b (record { first = bid; second = nbo + 100 }) (record { first = 2 * (bid - nbo); second = nbo })) ≡ true
        by true q = le-leb (nbo + 100) bid (f.low (leb-true nbo 100 q))
        by false q = le-leb nbo (2 * (bid - nbo)) (omega (arith, f.high (omega (arith, leb-false nbo 100 q))))
decides-24 true nbb offer = (
  λ a. record {
    limited = ltb-true 100 nbb (and_left (ltb 100 nbb) _ a);
    far = omega (arith, leb-true nbb (2 * (nbb - offer)) (and_right (ltb 100 nbb) _ a), ltb-true 100 nbb (and_left (ltb 100 nbb) _ a));
  },
  λ f. rw (lt-ltb 100 nbb f.limited) (le-leb nbb (2 * (nbb - offer)) (omega (arith, f.far, f.limited))),
)

-- "No NBO/NBB, no test."
pub none-no-24 : (s : Bool) (limit : ℕ) → TooFar s 0 limit → ⊥
none-no-24 false limit f = absurd (omega (arith, f.known))
none-no-24 true limit f = absurd (omega (arith, f.limited))

-- ---- the reason that is told ----

-- WHAT EACH REASON SAYS of a quote on side s with this limit, where `best` is NBO for a bid and NBB for an offer
pub data Barred (g : Guard) (s : Bool) (best limit : ℕ) : ℕ → Type 0 where
  above-underlying : AboveUnderlying g s limit → Barred g s best limit 25
  above-strike : AboveStrike g s limit → Barred g s best limit 26
  too_far : TooFar s best limit → Barred g s best limit 24

-- "in the order here"
abbrev pub bar_order : List ℕ
bar_order = 25 ∷ 26 ∷ 24 ∷ []

module _ {g : Guard} {s : Bool} {best limit : ℕ} where
  pub is-25 : Barred g s best limit 25 → AboveUnderlying g s limit
  is-25 (above-underlying a) = a

  pub is-26 : Barred g s best limit 26 → AboveStrike g s limit
  is-26 (above-strike a) = a

  pub is-24 : Barred g s best limit 24 → TooFar s best limit
  is-24 (too_far a) = a

  -- its numbers are above those of Stopped (StopLaws)
  pub barred-high : {n : ℕ} → Barred g s best limit n → 24 ≤ n
  barred-high (above-underlying a) = omega arith
  barred-high (above-strike a) = omega arith
  barred-high (too_far a) = omega arith

-- the tests decide just this
module _ (g : Guard) (s : Bool) (best limit : ℕ) where
  pub bars-decide : AllDecide (Barred g s best limit) (answers s (bars g s best limit))
  bars-decide = (
    (λ h. above-underlying ((decides-25 g s limit).0 h), λ a. (decides-25 g s limit).1 (is-25 a)),
    (
      (λ h. above-strike ((decides-26 g s limit).0 h), λ a. (decides-26 g s limit).1 (is-26 a)),
      ((λ h. too_far ((decides-24 s best limit).0 h), λ a. (decides-24 s best limit).1 (is-24 a)), tt),
    ),
  )

  -- THE REASON TOLD IS THE FIRST THAT HOLDS, and 0 where none does
  pub protection-first : TellsFirst (Barred g s best limit) bar_order (protection g s best limit)
  unfolding protection
  protection-first =
      tells_first (Barred g s best limit) (answers s (bars g s best limit)) bars-decide (omega arith, (omega arith, (omega arith, tt)))
