-- HIGHEST BELOW LOWEST: the best prices of a list decide whether every buy in it works below every sell.
-- Assumes nothing.
use Prim.Native.Nat.{ℕ, ◌+◌, ◌≤◌, min, max}
use mathlib.Core.Path.{◌≡◌, refl, sym, ◌∙◌}
use mathlib.Core.Bool.{Bool, true, false, cond, ◌&&◌, ◌||◌, beq, and-true}
use mathlib.Core.List.{List, [], ◌∷◌}
use native.Mathlib.Omega.{arith}
use borrow.Author.Tests.{ltb-true, ltb-false, lt-ltb, le-ltb, eqb-true, ne_eqb}
use lib.Dec.{eqb, ltb}
use Rattle.prices.specs.Side.{nearer, meek}
use Rattle.lists.specs.Tests.{All, all, pairs}
use Rattle.lists.specs.Choose.{scan}
use Rattle.book.specs.declared.Entry.{Entry}
use Rattle.book.specs.Look.{contra, nearest, working, facing}
use Rattle.book.proofs.OfferLaws.{positive}
use Rattle.soundness_theory.specs.Sound.{uncrossed, uncrossed_as}
use Rattle.soundness.specs.Summary.{best_apart}
use Rattle.soundness.proofs.PairLaws.{all_same, all-and}

-- an entry of side s at price w, beside a bid and an offer
fits : ℕ → ℕ → Bool → ℕ → Bool
fits bid offer false w = best_apart w offer
fits bid offer true w = ltb bid w

beside : ℕ → ℕ → Entry → Bool
beside bid offer e = fits bid offer e.sell e.working

module _ (p q w : ℕ) (some : 1 ≤ w) where
  -- the higher of two bids is below a price just if both are
  below_both : (x : ℕ) → ltb (nearer true p w) x ≡ (ltb p x && ltb w x)
  unfolding nearer meek
  below_both x = go (eqb p 0) refl (eqb w 0) refl (ltb p x) refl (ltb w x) refl
    where
      go : (a : Bool) → eqb p 0 ≡ a → (b : Bool) → eqb w 0 ≡ b → (c : Bool) → ltb p x ≡ c → (d : Bool) → ltb w x ≡ d
          → ltb (cond a w (cond b p (max p w))) x ≡ (c && d)
      go a e true f c g d h = absurd (omega (arith, eqb-true w 0 f))
      go true e false f true g d h = h
      go true e false f false g true h = absurd (omega (arith, eqb-true p 0 e, ltb-false p x g, ltb-true w x h))
      go true e false f false g false h = h
      go false e false f true g true h = lt-ltb (max p w) x (omega (arith, ltb-true p x g, ltb-true w x h))
      go false e false f true g false h = le-ltb (max p w) x (omega (arith, ltb-false w x h))
      go false e false f false g d h = le-ltb (max p w) x (omega (arith, ltb-false p x g))

  -- a price is below the lower of two offers, of which one may be missing, just if it is below both
  below-lower : (x : ℕ) → best_apart x (nearer false q w) ≡ (best_apart x q && ltb x w)
  unfolding nearer meek
  below-lower x = go (eqb q 0) refl (eqb w 0) refl (ltb x q) refl (ltb x w) refl
    where
      present : (r : ℕ) → 1 ≤ r → (eqb r 0 || ltb x r) ≡ ltb x r
      present r h = rw (ne_eqb r 0 (λ e. omega arith))

      go : (a : Bool) → eqb q 0 ≡ a → (b : Bool) → eqb w 0 ≡ b → (c : Bool) → ltb x q ≡ c → (d : Bool) → ltb x w ≡ d
          → best_apart x (cond a w (cond b q (min q w))) ≡ ((a || c) && d)
      go a e true f c g d h = absurd (omega (arith, eqb-true w 0 f))
      go true e false f c g d h = present w some ∙ h
      go false e false f c g d h =
          let q-some : 1 ≤ min q w = omega (arith, positive q e) in
          present (min q w) q-some ∙ lower c g d h
        where
          lower : (c : Bool) → ltb x q ≡ c → (d : Bool) → ltb x w ≡ d → ltb x (min q w) ≡ (c && d)
          lower true g true h = lt-ltb x (min q w) (omega (arith, ltb-true x q g, ltb-true x w h))
          lower true g false h = le-ltb x (min q w) (omega (arith, ltb-false x w h))
          lower false g d h = le-ltb x (min q w) (omega (arith, ltb-false x q g))

-- a bid that an entry betters is apart from the offer, and so on for the rest: one more entry of side s at price v
module _ (p q v : ℕ) (some : 1 ≤ v) where
  fits_next : (s t : Bool) (w : ℕ)
      → fits (cond (beq s false) (nearer true p v) p) (cond (beq s true) (nearer false q v) q) t w ≡ (fits p q t w && uncrossed_as s t v w)
  unfolding fits
  fits_next false false w = sym (and-true (best_apart w q))
  fits_next false true w = below_both p q v some w
  fits_next true false w = below-lower p q v some w
  fits_next true true w = sym (and-true (ltb p w))

  apart_next : (s : Bool)
      → best_apart (cond (beq s false) (nearer true p v) p) (cond (beq s true) (nearer false q v) q) ≡ (best_apart p q && fits p q s v)
  unfolding fits
  apart_next true = below-lower p q v some p
  apart_next false = go (eqb q 0) (below_both p q v some q)
    where
      go : (a : Bool) → ltb (nearer true p v) q ≡ (ltb p q && ltb v q) → (a || ltb (nearer true p v) q) ≡ ((a || ltb p q) && (a || ltb v q))
      go true e = refl
      go false e = e

regroup : (a f b u r : Bool) → ((a && f) && ((b && u) && r)) ≡ (a && ((f && b) && (u && r)))
regroup true true true u r = refl
regroup true true false u r = refl
regroup true false b u r = refl
regroup false f b u r = refl

-- the best prices from p and q on
reading : Bool → ℕ → ℕ → List Entry → ℕ
reading s p i l = scan (λ (r : ℕ) (_ : ℕ) (e : Entry). facing working s r e) p i l

abbrev Works : Entry → Type 0
Works e = 1 ≤ e.working

spread-from : (l : List Entry) → All Works l → (p q i : ℕ)
    → best_apart (reading true p i l) (reading false q i l) ≡ (best_apart p q && (all (beside p q) l && pairs uncrossed l))
unfolding reading scan all pairs beside
spread-from [] a p q i = sym (and-true (best_apart p q))
spread-from (x ∷ l) a p q i =
    spread-from l a.1 (facing working true p x) (facing working false q x) (i + 1)
    ∙ rw (apart_next p q x.working a.0 x.sell, others)
    (regroup (best_apart p q) (beside p q x) (all (beside p q) l) (all (uncrossed x) l) (pairs uncrossed l))
  where
    others : all (beside (facing working true p x) (facing working false q x)) l ≡ (all (beside p q) l && all (uncrossed x) l)
    others =
        all_same Works (beside (facing working true p x) (facing working false q x)) (λ (y : Entry). beside p q y && uncrossed x y)
        (λ y _. fits_next p q x.working a.0 x.sell y.sell y.working) l a.1
        ∙ all-and (beside p q) (uncrossed x) l

alone : (l : List Entry) → All Works l → all (beside 0 0) l ≡ true
unfolding all beside fits
alone [] a = refl
alone (x ∷ l) a = rw (one x.sell, alone l a.1)
  where
    one : (s : Bool) → fits 0 0 s x.working ≡ true
    one false = refl
    one true = lt-ltb 0 x.working a.0

pub spread-decides : (l : List Entry) → All Works l → pairs uncrossed l ≡ best_apart (contra true l) (contra false l)
unfolding nearest reading
spread-decides l a = sym (spread-from l a 0 0 0 ∙ rw (alone l a))
