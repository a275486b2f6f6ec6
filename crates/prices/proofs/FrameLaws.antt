-- The frame of a side: `seen s p` is the larger, the more aggressive p is, for either side. Definitions speak of prices as they are; laws
-- speak of them in the frame, where a sell is the mirror image of a buy by definition and nothing goes by side any more.
-- Assumes nothing.
use Prim.Native.Nat.{ℕ, ◌-◌, ◌≤◌, ◌<◌, min, max}
use mathlib.Core.Path.{◌≡◌, refl}
use mathlib.Core.Bool.{Bool, true, false, not, beq}
use native.Mathlib.Omega.{arith}
use borrow.Author.Tests.{leb-true, leb-false, le-leb, lt-leb}
use lib.Dec.{leb}
use Rattle.prices.specs.Side.{keen, meek, reaches, Aggressive, Short}
use Rattle.lists.proofs.Bools.{clash}
use Rattle.lists.proofs.FirstLaws.{Decides}

-- 200000 stands above all prices
unfoldable pub seen : Bool → ℕ → ℕ
seen false p = p
seen true p = 200000 - p

pub seen-inj : (s : Bool) (p q : ℕ) → p ≤ 200000 → q ≤ 200000 → seen s p ≡ seen s q → p ≡ q
unfolding seen
seen-inj false p q a b e = e
seen-inj true p q a b e = omega arith

pub seen-high : (s : Bool) (p : ℕ) → p ≤ 200000 → seen s p ≤ 200000
unfolding seen
seen-high false p a = a
seen-high true p a = omega arith

-- ---- the words of specs/Side, in the frame ----

pub seen-keen : (s : Bool) (p q : ℕ) → seen s (keen s p q) ≡ max (seen s p) (seen s q)
unfolding seen keen
seen-keen false p q = refl
seen-keen true p q = omega arith

pub seen-meek : (s : Bool) (p q : ℕ) → seen s (meek s p q) ≡ min (seen s p) (seen s q)
unfolding seen meek
seen-meek false p q = refl
seen-meek true p q = omega arith

pub reaches-true : (s : Bool) (p x : ℕ) → reaches s p x ≡ true → seen s x ≤ seen s p
unfolding seen reaches
reaches-true false p x e = leb-true x p e
reaches-true true p x e = omega (arith, leb-true p x e)

pub reaches-false : (s : Bool) (p x : ℕ) → p ≤ 200000 → x ≤ 200000 → reaches s p x ≡ false → seen s p < seen s x
unfolding seen reaches
reaches-false false p x a b e = leb-false x p e
reaches-false true p x a b e = omega (arith, leb-false p x e)

pub reaches-not : (s : Bool) (p x : ℕ) → reaches s p x ≡ false → seen s p ≤ seen s x
unfolding seen reaches
reaches-not false p x e = omega (arith, leb-false x p e)
reaches-not true p x e = omega (arith, leb-false p x e)

pub reached : (s : Bool) (p x : ℕ) → p ≤ 200000 → x ≤ 200000 → seen s x ≤ seen s p → reaches s p x ≡ true
unfolding seen reaches
reached false p x a b h = le-leb x p h
reached true p x a b h = le-leb p x (omega arith)

pub unreached : (s : Bool) (p x : ℕ) → seen s p < seen s x → reaches s p x ≡ false
unfolding seen reaches
unreached false p x h = lt-leb x p h
unreached true p x h = lt-leb p x (omega arith)

-- and as claims
pub decides-reaches : (s : Bool) (p x : ℕ) → Decides (reaches s p x) (Aggressive s p x)
unfolding reaches
decides-reaches false p x = (leb-true x p, le-leb x p)
decides-reaches true p x = (leb-true p x, le-leb p x)

pub aggressive-seen : (s : Bool) (p x : ℕ) → Aggressive s p x → seen s x ≤ seen s p
aggressive-seen s p x h = reaches-true s p x ((decides-reaches s p x).1 h)

pub seen-aggressive : (s : Bool) (p x : ℕ) → p ≤ 200000 → x ≤ 200000 → seen s x ≤ seen s p → Aggressive s p x
seen-aggressive s p x a b h = (decides-reaches s p x).0 (reached s p x a b h)

pub seen-short : (s : Bool) (p x : ℕ) → seen s p < seen s x → Short s p x
unfolding seen
seen-short false p x h = h
seen-short true p x h = omega arith

pub short-seen : (s : Bool) (p x : ℕ) → p ≤ 200000 → Short s p x → seen s p < seen s x
unfolding seen
short-seen false p x a h = h
short-seen true p x a h = omega arith

-- the less aggressive of two for one side is the more aggressive for the other
meek-keen : (s : Bool) (p q : ℕ) → meek s p q ≡ keen (not s) p q
unfolding meek keen
meek-keen true p q = refl
meek-keen false p q = refl

-- what holds of both prices, or of the second where it is the more aggressive, holds of the one that is taken
pub keen-either : (P : ℕ → Type 0) (s : Bool) (p q : ℕ) → P p → (seen s p ≤ seen s q → P q) → P (keen s p q)
unfolding seen keen
keen-either P false p q hp hq = go (leb p q) refl
  where
    go : (t : Bool) → leb p q ≡ t → P (max p q)
    go true e = let h : p ≤ q = leb-true p q e in let w : max p q ≡ q = omega arith in rw w (hq h)
    go false e = let h : q < p = leb-false p q e in let w : max p q ≡ p = omega arith in rw w hp
keen-either P true p q hp hq = go (leb q p) refl
  where
    go : (t : Bool) → leb q p ≡ t → P (min p q)
    go true e = let h : q ≤ p = leb-true q p e in let w : min p q ≡ q = omega arith in rw w (hq (omega arith))
    go false e = let h : p < q = leb-false q p e in let w : min p q ≡ p = omega arith in rw w hp

pub meek-either : (P : ℕ → Type 0) (s : Bool) (p q : ℕ) → P p → P q → P (meek s p q)
meek-either P s p q hp hq = rw (meek-keen s p q) (keen-either P (not s) p q hp (λ _. hq))

-- ---- two sides that face each other ----

abbrev pub Facing : Bool → Bool → Type 0
Facing s t = beq t (not s) ≡ true

pub facing-sym : (s t : Bool) → Facing s t → Facing t s
facing-sym true true e = e
facing-sym true false e = refl
facing-sym false true e = refl
facing-sym false false e = e

-- to one that faces it a price is as meek as it is keen to the other
pub mirror-le : (s t : Bool) (p q : ℕ) → p ≤ 200000 → q ≤ 200000 → Facing s t → seen s p ≤ seen s q → seen t q ≤ seen t p
unfolding seen
mirror-le true true p q a b e h = clash e refl
mirror-le true false p q a b e h = omega arith
mirror-le false true p q a b e h = omega arith
mirror-le false false p q a b e h = clash e refl

pub mirror-lt : (s t : Bool) (p q : ℕ) → p ≤ 200000 → q ≤ 200000 → Facing s t → seen s p < seen s q → seen t q < seen t p
unfolding seen
mirror-lt true true p q a b e h = clash e refl
mirror-lt true false p q a b e h = omega arith
mirror-lt false true p q a b e h = omega arith
mirror-lt false false p q a b e h = clash e refl
