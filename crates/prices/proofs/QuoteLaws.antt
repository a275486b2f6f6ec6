-- Laws of one sliding quote before a contra price: what the tests of settling tell of it, what keeps it at rest, and what a move makes of it.
-- Assumes nothing.
use Prim.Native.Nat.{ℕ, ◌≤◌, ◌<◌, max}
use mathlib.Core.Path.{◌≡◌, refl}
use mathlib.Core.Bool.{Bool, true, false, cond, not, ◌&&◌}
use native.Mathlib.Omega.{arith}
use borrow.Author.Tests.{not-false}
use lib.Dec.{eqb}
use Rattle.prices.specs.declared.Prices.{Prices}
use Rattle.prices.specs.Side.{reaches}
use Rattle.kinds.specs.Kinds.{minds}
use Rattle.prices.specs.Aims.{minded, aims}
use Rattle.prices.specs.Rest.{marketable, resting_prices, at_rest, stirs_at}
use Rattle.prices.proofs.FrameLaws.{seen, seen-high, reaches-false, unreached}
use Rattle.prices.proofs.StepLaws.{Mpv, Legal, LegalIfAny}
use Rattle.prices.proofs.AimLaws.{unbound, faced, before, before-lt, before-grid, before-mono, Aimed, aimed}
use Rattle.prices.proofs.RestLaws.{Slides, Eased, AtRest, reach, moved-rests, moved-eased, moved_on, moved-short, moved-slides, rest-is, is-rest}
use Rattle.lists.proofs.Bools.{or-false-right}

module _ {m c : ℕ} (kind : ℕ) (s : Bool) (v : Mpv m) (gc : LegalIfAny m c) where
  -- a legal price short of the contra price is at most one step before the contra price that the kind minds
  pub minded-grid : {w : ℕ} → Legal m w → seen s w < faced s c → seen s w ≤ before m s (minded kind c)
  unfolding minded before
  minded-grid {w} a h = go (minds kind)
    where
      go : (t : Bool) → seen s w ≤ before m s (cond t c 0)
      go true = before-grid s v gc a h
      go false = omega (arith, seen-high s w (omega (arith, a.high)))

  -- a quote that is not marketable aims short of the contra price
  pub unmarketable : {l a : ℕ} (p : Prices) → Aimed m s l a (minded kind c) p → marketable kind s c p ≡ false → seen s p.working < faced s c
  unfolding minded faced before marketable
  unmarketable p ai e = go (minds kind) (eqb c 0) refl e (omega (arith, ai.working-is))
    where
      high : p.working ≤ 200000
      high = omega (arith, ai.near-working.high)

      go : (t u : Bool) → eqb c 0 ≡ u → (not t && (not u && reaches s p.working c)) ≡ false
          → seen s p.working ≤ before m s (cond t c 0) → seen s p.working < cond u unbound (seen s c)
      go t true q f k = omega (arith, seen-high s p.working high)
      go true false q f k = omega (arith, before-lt s v gc q)
      go false false q f k = reaches-false s p.working c high (omega (arith, (gc.legal q).high)) f

  -- and one that works short of it, at its working aim or beyond, is not marketable
  pub not-marketable : (w : ℕ) (p : Prices) → seen s p.working ≤ seen s w → seen s w < faced s c → marketable kind s c p ≡ false
  unfolding faced marketable
  not-marketable w p h = go (minds kind) (eqb c 0)
    where
      go : (t u : Bool) → seen s w < cond u unbound (seen s c) → (not t && (not u && reaches s p.working c)) ≡ false
      go true u k = refl
      go false true k = refl
      go false false k = unreached s p.working c (omega arith)

-- a kind that minds the contra price is never marketable: it never takes
pub minding-rests : (kind : ℕ) (s : Bool) (c : ℕ) (p : Prices) → minds kind ≡ true → marketable kind s c p ≡ false
unfolding marketable
minding-rests kind s c p e = rw e

minded-mono : {m c c' : ℕ} (kind : ℕ) (s : Bool) → Mpv m → LegalIfAny m c → LegalIfAny m c' → faced s c' ≤ faced s c
    → before m s (minded kind c') ≤ before m s (minded kind c)
unfolding minded
minded-mono {m} {c} {c'} kind s v gc gd h = go (minds kind)
  where
    go : (t : Bool) → before m s (cond t c' 0) ≤ before m s (cond t c 0)
    go true = before-mono s v gd gc h
    go false = omega arith

module _ {m l a c d w : ℕ} (kind : ℕ) (s : Bool) (v : Mpv m) (ga : LegalIfAny m a) (gc : LegalIfAny m c) (sl : Slides m s l d w) where
  pub aim-aimed : Aimed m s l a (minded kind c) (aims m kind s l a c)
  aim-aimed = aimed kind s v sl.limit ga gc

  -- ---- stirring, or not ----

  pub unstirred-rests : stirs_at m kind s l a c d w ≡ false → AtRest s d w (aims m kind s l a c)
  unfolding stirs_at
  unstirred-rests e = is-rest s d w (aims m kind s l a c)
      (not-false (at_rest s d w (aims m kind s l a c))
      (or-false-right (marketable kind s c (aims m kind s l a c)) (not (at_rest s d w (aims m kind s l a c))) e))

  pub short-reach : Eased s a d w → seen s w < faced s c → seen s w ≤ max (seen s d) (seen s (aims m kind s l a c).working)
  short-reach e h = reach s v ga (aims m kind s l a c) aim-aimed sl e (minded-grid kind s v gc sl.works h)

  pub rests-unstirred : Eased s a d w → seen s w < faced s c → AtRest s d w (aims m kind s l a c) → stirs_at m kind s l a c d w ≡ false
  unfolding stirs_at
  rests-unstirred e h r = rw (
    not-marketable kind s v gc w (aims m kind s l a c) r.working h,
    rest-is s v ga (aims m kind s l a c) aim-aimed sl r (short-reach e h),
  )

-- a contra price that comes closer only lowers the aims: a quote at rest stays at rest
pub unstirred-stays : {m l a c c' d w : ℕ} (kind : ℕ) (s : Bool) → Mpv m → LegalIfAny m a → LegalIfAny m c → LegalIfAny m c' → Slides m s l d w
    → Eased s a d w
    → faced s c' ≤ faced s c → seen s w < faced s c' → stirs_at m kind s l a c d w ≡ false → stirs_at m kind s l a c' d w ≡ false
unstirred-stays {m} {l} {a} {c} {c'} {d} {w} kind s v ga gc gd sl ez closer h e =
    rests-unstirred kind s v ga gd sl ez h (record {
      display = omega (arith, r.display, x.display-is, y.display-is, fall);
      working = omega (arith, r.working, x.working-is, y.working-is, fall);
    })
  where
    r : AtRest s d w (aims m kind s l a c)
    r = unstirred-rests kind s v ga gc sl e

    x : Aimed m s l a (minded kind c) (aims m kind s l a c)
    x = aim-aimed kind s v ga gc sl

    y : Aimed m s l a (minded kind c') (aims m kind s l a c')
    y = aim-aimed kind s v ga gd sl

    fall : before m s (minded kind c') ≤ before m s (minded kind c)
    fall = minded-mono kind s v gc gd closer

-- ---- what a move makes of a quote ----

pub record Moved (m kind : ℕ) (s : Bool) (l a c w : ℕ) (p : Prices) : Type 0 where
  pub slides : Slides m s l p.display p.working
  pub eased : Eased s a p.display p.working
  pub short : seen s p.working < faced s c
  pub on : seen s w ≤ seen s p.working
  pub unstirred : stirs_at m kind s l a c p.display p.working ≡ false

pub moves : {m l a c d w : ℕ} (kind : ℕ) (s : Bool) → Mpv m → LegalIfAny m a → LegalIfAny m c → Slides m s l d w → Eased s a d w → seen s w < faced s c
    → marketable kind s c (aims m kind s l a c) ≡ false → Moved m kind s l a c w (resting_prices s d (aims m kind s l a c))
moves {m} {l} {a} {c} {d} {w} kind s v ga gc sl ez h e = record {
  slides = slides';
  eased = eased';
  short = short';
  on = moved_on s v ga p ai sl (short-reach kind s v ga gc sl ez h);
  unstirred = rests-unstirred kind s v ga gc slides' eased' short' (moved-rests s d p);
}
  where
    p : Prices
    p = aims m kind s l a c

    ai : Aimed m s l a (minded kind c) (aims m kind s l a c)
    ai = aim-aimed kind s v ga gc sl

    slides' : Slides m s l (resting_prices s d (aims m kind s l a c)).display (resting_prices s d (aims m kind s l a c)).working
    slides' = moved-slides s v ga p ai sl

    eased' : Eased s a (resting_prices s d (aims m kind s l a c)).display (resting_prices s d (aims m kind s l a c)).working
    eased' = moved-eased s v ga p ai sl

    short' : seen s (resting_prices s d (aims m kind s l a c)).working < faced s c
    short' = moved-short s v ga p ai sl (faced s c) h (unmarketable kind s v gc p ai e)
