-- Laws of the aims, in the frame of a side: what they are, that they are legal as soon as they are not past the last price, their order, that they
-- stay within the limit, and that they are at most one step apart.
-- Assumes nothing.
use Prim.Native.Nat.{ℕ, ◌≤◌, ◌<◌, min}
use mathlib.Core.Path.{◌≡◌, refl, subst, ap, ◌∙◌}
use mathlib.Core.Bool.{Bool, true, false, cond}
use native.Mathlib.Omega.{arith}
use borrow.Author.Tests.{leb-true, leb-false}
use lib.Dec.{eqb, leb}
use Rattle.prices.specs.declared.Prices.{Prices}
use Rattle.prices.specs.Side.{meek}
use Rattle.prices.specs.Step.{steps_of, back}
use Rattle.kinds.specs.Kinds.{minds}
use Rattle.prices.specs.Aims.{minded, up_to, short_of, aim_display, aim_working, aims}
use Rattle.prices.proofs.FrameLaws.{seen, seen-inj, seen-high, seen-meek, meek-either}
use Rattle.prices.proofs.GridLaws.{OnGrid}
use Rattle.prices.proofs.StepLaws.{Mpv, Legal, LegalIfAny, if-any-none, back-lt, back-grid, back-high, back_on, back-legal}

pub back-mono : {m p q : ℕ} (s : Bool) → Mpv m → Legal m p → Legal m q → seen s p ≤ seen s q → seen s (back m s p) ≤ seen s (back m s q)
back-mono {m} {p} {q} s v a b h = go (leb (seen s q) (seen s p)) refl
  where
    go : (t : Bool) → leb (seen s q) (seen s p) ≡ t → seen s (back m s p) ≤ seen s (back m s q)
    go true e =
        let same : p ≡ q = seen-inj s p q (omega (arith, a.high)) (omega (arith, b.high)) (omega (arith, leb-true (seen s q) (seen s p) e)) in
        subst (λ (x : ℕ). seen s (back m s p) ≤ seen s (back m s x)) same (omega arith)
    go false e = omega (arith, back-lt s v a, back-grid s v a b (leb-false (seen s q) (seen s p) e))

-- ---- a price that may be missing, in the frame: no bound at all where it is, which 300000 stands for ----

abbrev pub unbound : ℕ
unbound = 300000

unfoldable pub faced : Bool → ℕ → ℕ
faced s x = cond (eqb x 0) unbound (seen s x)

-- one step before it
unfoldable pub before : ℕ → Bool → ℕ → ℕ
before m s x = cond (eqb x 0) unbound (seen s (back m s x))

pub before-le : {m x : ℕ} (s : Bool) → Mpv m → LegalIfAny m x → before m s x ≤ faced s x
unfolding faced before
before-le {m} {x} s v g = go (eqb x 0) refl
  where
    go : (t : Bool) → eqb x 0 ≡ t → cond t unbound (seen s (back m s x)) ≤ cond t unbound (seen s x)
    go true e = omega arith
    go false e = omega (arith, back-lt s v (g.legal e))

pub before-lt : {m x : ℕ} (s : Bool) → Mpv m → LegalIfAny m x → eqb x 0 ≡ false → before m s x < seen s x
unfolding before
before-lt {m} {x} s v g e = rw e (back-lt s v (g.legal e))

-- a legal price short of x is at most one step before it
pub before-grid : {m x p : ℕ} (s : Bool) → Mpv m → LegalIfAny m x → Legal m p → seen s p < faced s x → seen s p ≤ before m s x
unfolding faced before
before-grid {m} {x} {p} s v g a = go (eqb x 0) refl
  where
    go : (t : Bool) → eqb x 0 ≡ t → seen s p < cond t unbound (seen s x) → seen s p ≤ cond t unbound (seen s (back m s x))
    go true e h = omega arith
    go false e h = back-grid s v a (g.legal e) h

pub before-mono : {m x y : ℕ} (s : Bool) → Mpv m → LegalIfAny m x → LegalIfAny m y → faced s x ≤ faced s y → before m s x ≤ before m s y
unfolding faced before
before-mono {m} {x} {y} s v g k = go (eqb x 0) (eqb y 0) refl refl
  where
    go : (t u : Bool) → eqb x 0 ≡ t → eqb y 0 ≡ u → cond t unbound (seen s x) ≤ cond u unbound (seen s y)
        → cond t unbound (seen s (back m s x)) ≤ cond u unbound (seen s (back m s y))
    go true true e f h = omega arith
    go true false e f h = omega (arith, seen-high s y (omega (arith, (k.legal f).high)))
    go false true e f h = omega (arith, seen-high s (back m s x) (omega (arith, back-high s v (g.legal e))))
    go false false e f h = back-mono s v (g.legal e) (k.legal f) h

-- one step back from a price within x is within one step before x
back-before : {m x p : ℕ} (s : Bool) → Mpv m → LegalIfAny m x → Legal m p → seen s p ≤ faced s x → seen s (back m s p) ≤ before m s x
unfolding faced before
back-before {m} {x} {p} s v g k = go (eqb x 0) refl
  where
    go : (t : Bool) → eqb x 0 ≡ t → seen s p ≤ cond t unbound (seen s x) → seen s (back m s p) ≤ cond t unbound (seen s (back m s x))
    go true e h = omega (arith, seen-high s (back m s p) (omega (arith, back-high s v k)))
    go false e h = back-mono s v k (g.legal e) h

-- ---- the bounds ----

seen-up_to : (s : Bool) (x p : ℕ) → p ≤ 200000 → seen s (up_to s x p) ≡ min (seen s p) (faced s x)
unfolding up_to faced
seen-up_to s x p h = go (eqb x 0)
  where
    go : (t : Bool) → seen s (cond t p (meek s p x)) ≡ min (seen s p) (cond t unbound (seen s x))
    go true = omega (arith, seen-high s p h)
    go false = seen-meek s p x

seen-short_of : (m : ℕ) (s : Bool) (x p : ℕ) → p ≤ 200000 → seen s (short_of m s x p) ≡ min (seen s p) (before m s x)
unfolding short_of before
seen-short_of m s x p h = go (eqb x 0)
  where
    go : (t : Bool) → seen s (cond t p (meek s p (back m s x))) ≡ min (seen s p) (cond t unbound (seen s (back m s x)))
    go true = omega (arith, seen-high s p h)
    go false = seen-meek s p (back m s x)

-- what holds of p and of the bound holds of p held to it
bound-keeps : (P : ℕ → Type 0) (s : Bool) (x b p : ℕ) → P p → (eqb x 0 ≡ false → P b) → P (cond (eqb x 0) p (meek s p b))
bound-keeps P s x b p hp hb = go (eqb x 0) refl
  where
    go : (t : Bool) → eqb x 0 ≡ t → P (cond t p (meek s p b))
    go true e = hp
    go false e = meek-either P s p b hp (hb e)

-- ---- an aim may fall one step outside the legal prices: it lies on the grid, and is legal as soon as some legal price is no more aggressive ----

pub record Near (m : ℕ) (s : Bool) (p : ℕ) : Type 0 where
  pub on : OnGrid (steps_of m) p
  pub high : p ≤ 100010
  pub legal : (q : ℕ) → Legal m q → seen s q ≤ seen s p → Legal m p

near : {m p : ℕ} (s : Bool) → Legal m p → Near m s p
near s a = record { on = a.grid; high = omega (arith, a.high); legal = λ q b h. a }

near-back : {m p : ℕ} (s : Bool) → Mpv m → Legal m p → Near m s (back m s p)
near-back s v a = record { on = back_on s v a; high = back-high s v a; legal = λ q b h. back-legal s v a b h }

-- the aims of a quote with limit l, away price a and contra price x that it minds: all that other laws need of them
pub record Aimed (m : ℕ) (s : Bool) (l a x : ℕ) (p : Prices) : Type 0 where
  pub near-display : Near m s p.display
  pub near-working : Near m s p.working
  pub display-is : seen s p.display ≡ min (min (seen s l) (before m s a)) (before m s x)
  pub working-is : seen s p.working ≡ min (min (seen s l) (faced s a)) (before m s x)

pub if-any-minded : {m c : ℕ} (kind : ℕ) → LegalIfAny m c → LegalIfAny m (minded kind c)
unfolding minded
if-any-minded {m} {c} kind gc = go (minds kind)
  where
    go : (t : Bool) → LegalIfAny m (cond t c 0)
    go true = gc
    go false = if-any-none

pub aimed : {m l a c : ℕ} (kind : ℕ) (s : Bool) → Mpv m → Legal m l → LegalIfAny m a → LegalIfAny m c → Aimed m s l a (minded kind c) (aims m kind s l a c)
unfolding aim_display aim_working up_to short_of
aimed {m} {l} {a} {c} kind s v hl ha gc = record {
  near-display = bound-keeps (Near m s) s x (back m s x) (short_of m s a l) nd (λ e. near-back s v (hx.legal e));
  near-working = bound-keeps (Near m s) s x (back m s x) (up_to s a l) nw (λ e. near-back s v (hx.legal e));
  display-is =
      seen-short_of m s x (short_of m s a l) (omega (arith, nd.high)) ∙ ap (λ (n : ℕ). min n (before m s x)) (seen-short_of m s a l (omega (arith, hl.high)));
  working-is = seen-short_of m s x (up_to s a l) (omega (arith, nw.high)) ∙ ap (λ (n : ℕ). min n (before m s x)) (seen-up_to s a l (omega (arith, hl.high)));
}
  where
    x : ℕ
    x = minded kind c

    hx : LegalIfAny m x
    hx = if-any-minded kind gc

    nd : Near m s (short_of m s a l)
    nd = bound-keeps (Near m s) s a (back m s a) l (near s hl) (λ e. near-back s v (ha.legal e))

    nw : Near m s (up_to s a l)
    nw = bound-keeps (Near m s) s a a l (near s hl) (λ e. near s (ha.legal e))

module _ {m l a x : ℕ} (s : Bool) (v : Mpv m) (ga : LegalIfAny m a) (p : Prices) (ai : Aimed m s l a x p) where
  -- the display aim is no more aggressive than the working aim,
  pub aims-order : seen s p.display ≤ seen s p.working
  aims-order = omega (arith, ai.display-is, ai.working-is, before-le s v ga)

  -- which does not go past the limit
  pub aims-limit : seen s p.working ≤ seen s l
  aims-limit = omega (arith, ai.working-is)

  -- or past the away price,
  pub aims-away : seen s p.working ≤ faced s a
  aims-away = omega (arith, ai.working-is)

  -- and, where it is legal, is at most one step from it
  pub aims-step : Legal m p.working → seen s (back m s p.working) ≤ seen s p.display
  aims-step k =
      let j : seen s (back m s p.working) ≤ before m s a = back-before s v ga k (omega (arith, ai.working-is)) in
      omega (arith, back-lt s v k, ai.display-is, ai.working-is)

-- whatever the contra price, the working aim does not go past the away price;
pub aim-within : (m kind : ℕ) (s : Bool) (l a c : ℕ) → l ≤ 200000 → seen s (aim_working m kind s l a c) ≤ faced s a
unfolding aim_working short_of
aim-within m kind s l a c h = go (eqb (minded kind c) 0)
  where
    go : (t : Bool) → seen s (cond t (up_to s a l) (meek s (up_to s a l) (back m s (minded kind c)))) ≤ faced s a
    go true = omega (arith, seen-up_to s a l h)
    go false = omega (arith, seen-up_to s a l h, seen-meek s (up_to s a l) (back m s (minded kind c)))

-- and to a kind that does not mind it, it is all one
pub aim-unminded : (m kind : ℕ) (s : Bool) (l a c c' : ℕ) → minds kind ≡ false → aim_working m kind s l a c ≡ aim_working m kind s l a c'
unfolding aim_working minded
aim-unminded m kind s l a c c' e = rw e refl
