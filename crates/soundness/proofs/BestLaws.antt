-- The best prices, by maxima and minima, are those that each side faces (book's `contra` and `national`).
-- Assumes nothing.
use Prim.Native.Nat.{ℕ, ◌≤◌, min, max}
use mathlib.Core.Path.{◌≡◌, refl, sym, ap, ◌∙◌}
use mathlib.Core.Bool.{Bool, true, false, cond, beq}
use mathlib.Core.List.{List, [], ◌∷◌, ◌++◌}
use native.Mathlib.Omega.{arith}
use borrow.Author.Tests.{eqb-true, eqb-false, ne_eqb}
use lib.Dec.{eqb}
use Rattle.prices.specs.Side.{nearer, meek}
use Rattle.prices.specs.Step.{top_price}
use Rattle.lists.specs.Choose.{scan}
use Rattle.book.specs.declared.Entry.{Entry}
use Rattle.book.specs.Look.{nearest, facing}
use Rattle.book.proofs.OfferLaws.{best-alone, best-nearer, best-one}
use Rattle.book.proofs.LookLaws.{nearest-tells, nearest-offered}
use Rattle.soundness.specs.Summary.{offer_key, offer_of, buys_at, sells_at, no_offer}
use Rattle.soundness.proofs.PairLaws.{scan-snoc}

-- one more entry, as the price that a side faces has it
nearest-more : (price : Entry → ℕ) (s : Bool) (l : List Entry) (e : Entry) → nearest price s 0 (l ++ (e ∷ [])) ≡ facing price s (nearest price s 0 l) e
unfolding nearest
nearest-more price s l e = scan-snoc (λ (q : ℕ) (x : Entry). facing price s q x) 0 0 l e

-- ---- the highest buy: a maximum, as 0 is below all prices ----

higher-nearer : (p q : ℕ) → max p q ≡ nearer true p q
unfolding nearer meek
higher-nearer p q = go (eqb p 0) refl (eqb q 0) refl
  where
    go : (b : Bool) → eqb p 0 ≡ b → (c : Bool) → eqb q 0 ≡ c → max p q ≡ cond b q (cond c p (max p q))
    go true f c g = omega (arith, eqb-true p 0 f)
    go false f true g = omega (arith, eqb-true q 0 g)
    go false f false g = refl

pub highest-more : (price : Entry → ℕ) (l : List Entry) (e : Entry) (p : ℕ) → p ≡ nearest price true 0 l
    → max p (buys_at e.sell (price e)) ≡ nearest price true 0 (l ++ (e ∷ []))
highest-more price l e p h = side e.sell ∙ ap (λ (q : ℕ). facing price true q e) h ∙ sym (nearest-more price true l e)
  where
    side : (s : Bool) → max p (buys_at s (price e)) ≡ cond (beq s false) (nearer true p (price e)) p
    side true = omega arith
    side false = higher-nearer p (price e)

-- ---- the lowest sell: a minimum, once none is held as a number above all prices ----

pub held-some : (p : ℕ) → 1 ≤ p → offer_key p ≡ p
unfolding offer_key
held-some p h = rw (ne_eqb p 0 (λ e. omega arith))

lower-nearer : (p q : ℕ) → p ≤ top_price → q ≤ top_price → min (offer_key p) (offer_key q) ≡ offer_key (nearer false p q)
unfolding offer_key nearer meek
lower-nearer p q a b = go (eqb p 0) refl (eqb q 0) refl
  where
    go : (x : Bool) → eqb p 0 ≡ x → (y : Bool) → eqb q 0 ≡ y
        → min (cond x no_offer p) (cond y no_offer q) ≡ cond (eqb (cond x q (cond y p (min p q))) 0) no_offer (cond x q (cond y p (min p q)))
    go true f true g = rw g
    go true f false g = rw g (omega arith)
    go false f true g = rw f (omega arith)
    go false f false g = rw (ne_eqb (min p q) 0 (λ e. omega (arith, eqb-false p 0 f, eqb-false q 0 g, e)))

lower_high : (p q : ℕ) → p ≤ top_price → q ≤ top_price → nearer false p q ≤ top_price
unfolding nearer meek
lower_high p q a b = go (eqb p 0) (eqb q 0)
  where
    go : (x y : Bool) → cond x q (cond y p (min p q)) ≤ top_price
    go true y = b
    go false true = a
    go false false = omega arith

-- p holds the lowest price of the sells
pub record Lowest (price : Entry → ℕ) (l : List Entry) (p : ℕ) : Type 0 where
  pub holds : p ≡ offer_key (nearest price false 0 l)
  pub high : nearest price false 0 l ≤ top_price

pub lowest-none : (price : Entry → ℕ) → Lowest price [] no_offer
unfolding nearest scan offer_key
lowest-none price = record { holds = refl; high = omega arith }

pub lowest-more : (price : Entry → ℕ) (l : List Entry) (e : Entry) (p : ℕ) → Lowest price l p → price e ≤ top_price
    → Lowest price (l ++ (e ∷ [])) (min p (sells_at e.sell (offer_key (price e))))
unfolding offer_key
lowest-more price l e p h high = rw h.holds (record {
  holds = side e.sell ∙ ap offer_key (sym (nearest-more price false l e));
  high = rw (nearest-more price false l e) (low e.sell);
})
  where
    q : ℕ
    q = nearest price false 0 l

    stays : (b : Bool) → eqb q 0 ≡ b → min (cond b no_offer q) no_offer ≡ cond b no_offer q
    stays true f = refl
    stays false f = omega (arith, h.high)

    side : (s : Bool) → min (offer_key q) (sells_at s (offer_key (price e))) ≡ offer_key (cond (beq s true) (nearer false q (price e)) q)
    side true = lower-nearer q (price e) h.high high
    side false = stays (eqb q 0) refl

    low : (s : Bool) → cond (beq s true) (nearer false q (price e)) q ≤ top_price
    low true = lower_high q (price e) h.high high
    low false = h.high

pub lowest-told : (price : Entry → ℕ) (l : List Entry) (p : ℕ) → Lowest price l p → offer_of p ≡ nearest price false 0 l
unfolding offer_key offer_of
lowest-told price l p h = rw h.holds (go (eqb (nearest price false 0 l) 0) refl)
  where
    go : (b : Bool) → eqb (nearest price false 0 l) 0 ≡ b → offer_of (cond b no_offer (nearest price false 0 l)) ≡ nearest price false 0 l
    go true f = sym (eqb-true (nearest price false 0 l) 0 f)
    go false f = rw (ne_eqb (nearest price false 0 l) no_offer (λ e. omega (arith, h.high)))

-- ---- reading on from a price is the nearer of it and what is read from none: both are the best of what is on offer ----

pub nearest-away : (price : Entry → ℕ) (s : Bool) (a : ℕ) (l : List Entry) → nearest price s a l ≡ nearer s a (nearest price s 0 l)
nearest-away price s a l = best-one (nearest-tells price s a l) (best-nearer (best-alone s a) (nearest-offered price s l))
