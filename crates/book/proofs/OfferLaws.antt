-- The best of the prices that are on offer to a side, and that there is only one such price.
-- Assumes nothing.
use Prim.Native.Nat.{ℕ, zero, suc, ◌≤◌}
use mathlib.Core.Path.{◌≡◌, refl}
use mathlib.Core.Bool.{Bool, true, false, cond}
use mathlib.Core.Logic.{◌⊎◌, inl, inr, ⊎_elim}
use native.Mathlib.Omega.{arith}
use borrow.Author.Tests.{eqb-true, eqb-false}
use lib.Dec.{eqb}
use Rattle.prices.specs.Side.{meek, nearer}
use Rattle.prices.proofs.FrameLaws.{meek-either}

-- to side s the contra price p is as good as q: to a buy no higher, to a sell no lower
abbrev pub AsGood : Bool → ℕ → ℕ → Type 0
AsGood false p q = p ≤ q
AsGood true p q = q ≤ p

-- THE BEST OF WHAT IS ON OFFER to side s: none (0) only where nothing is; else it is on offer itself, and nothing on offer is better
pub record Best (s : Bool) (On : ℕ → Type 0) (p : ℕ) : Type 0 where
  pub none : p ≡ 0 → (q : ℕ) → On q → ⊥
  pub some : 1 ≤ p → On p
  pub best : (q : ℕ) → On q → AsGood s p q

pub none_or_some : (p : ℕ) → (p ≡ 0) ⊎ (1 ≤ p)
none_or_some zero = inl refl
none_or_some (suc p) = inr (omega arith)

pub positive : (p : ℕ) → eqb p 0 ≡ false → 1 ≤ p
positive p e = ⊎_elim (λ z. absurd (eqb-false p 0 e z)) (λ h. h) (none_or_some p)

module _ {s : Bool} {On : ℕ → Type 0} where
  -- and where nothing is on offer it is none
  pub best_none : {p : ℕ} → Best s On p → ((q : ℕ) → On q → ⊥) → p ≡ 0
  best_none {p} b n = ⊎_elim (λ e. e) (λ h. absurd (n p (b.some h))) (none_or_some p)

  -- THERE IS ONLY ONE
  pub best-one : {p q : ℕ} → Best s On p → Best s On q → p ≡ q
  best-one {p} {q} a b = by (none_or_some p) (none_or_some q)
    where
      level : (t : Bool) → AsGood t p q → AsGood t q p → p ≡ q
      level false x y = omega arith
      level true x y = omega arith

      by : (p ≡ 0) ⊎ (1 ≤ p) → (q ≡ 0) ⊎ (1 ≤ q) → p ≡ q
      by (inl e) (inl f) = omega arith
      by (inl e) (inr f) = absurd (a.none e q (b.some f))
      by (inr e) (inl f) = absurd (b.none f p (a.some e))
      by (inr e) (inr f) = level s (a.best q (b.some f)) (b.best p (a.some e))

-- a price by itself
abbrev pub Alone : ℕ → ℕ → Type 0
Alone p q = (p ≡ q) × (1 ≤ q)

pub best-alone : (s : Bool) (p : ℕ) → Best s (Alone p) p
best-alone s p = record { none = λ e q h. absurd (omega (arith, h.0, h.1)); some = λ h. (refl, h); best = λ q h. same s q h.0 }
  where
    same : (t : Bool) (q : ℕ) → p ≡ q → AsGood t p q
    same false q e = omega arith
    same true q e = omega arith

-- what is on offer in one place or another: its best is the nearer of the two that are best there
pub best-nearer : {s : Bool} {On Off : ℕ → Type 0} {p q : ℕ} → Best s On p → Best s Off q → Best s (λ (x : ℕ). On x ⊎ Off x) (nearer s p q)
unfolding nearer meek
best-nearer {s} {On} {Off} {p} {q} a b = go (eqb p 0) refl (eqb q 0) refl
  where
    first : (t : Bool) (x y z : ℕ) → AsGood t x z → AsGood t (meek t x y) z
    first false x y z h = omega arith
    first true x y z h = omega arith

    second : (t : Bool) (x y z : ℕ) → AsGood t y z → AsGood t (meek t x y) z
    second false x y z h = omega arith
    second true x y z h = omega arith

    go : (t : Bool) → eqb p 0 ≡ t → (u : Bool) → eqb q 0 ≡ u → Best s (λ (x : ℕ). On x ⊎ Off x) (cond t q (cond u p (meek s p q)))
    go true e u f = record {
      none = λ z x h. ⊎_elim (a.none (eqb-true p 0 e) x) (b.none z x) h;
      some = λ h. inr (b.some h);
      best = λ x h. ⊎_elim (λ o. absurd (a.none (eqb-true p 0 e) x o)) (b.best x) h;
    }
    go false e true f = record {
      none = λ z x h. absurd (eqb-false p 0 e z);
      some = λ h. inl (a.some h);
      best = λ x h. ⊎_elim (a.best x) (λ o. absurd (b.none (eqb-true q 0 f) x o)) h;
    }
    go false e false f = record {
      none = λ z x h. absurd (let k : 1 ≤ meek s p q = meek-either (λ (n : ℕ). 1 ≤ n) s p q (positive p e) (positive q f) in omega arith);
      some = λ _. meek-either (λ (n : ℕ). On n ⊎ Off n) s p q (inl (a.some (positive p e))) (inr (b.some (positive q f)));
      best = λ x h. ⊎_elim (λ o. first s p q x (a.best x o)) (λ o. second s p q x (b.best x o)) h;
    }

-- the same offer told in other words
pub best-same : {s : Bool} {On Off : ℕ → Type 0} {p : ℕ} → ((q : ℕ) → On q → Off q) → ((q : ℕ) → Off q → On q) → Best s On p → Best s Off p
best-same f g b = record { none = λ e q h. b.none e q (g q h); some = λ h. f _ (b.some h); best = λ q h. b.best q (g q h) }
