-- Laws of resting prices, in the frame of a side, for any aims: a move to them never goes back, keeps a quote's prices sound, and leaves it at rest.
-- And the one that makes settling's theory short: for an eased quote, AT REST IS TWO INEQUALITIES.
-- Assumes nothing.
use Prim.Native.Nat.{ℕ, ◌≤◌, ◌<◌, max}
use mathlib.Core.Path.{◌≡◌, refl, ap}
use mathlib.Core.Bool.{Bool, true, false, ◌&&◌}
use native.Mathlib.Omega.{arith}
use borrow.Author.Tests.{leb-true, leb-false, eqb-true, eq-eqb}
use lib.Dec.{eqb, leb}
use Rattle.prices.specs.declared.Prices.{Prices}
use Rattle.prices.specs.Side.{keen, reaches}
use Rattle.prices.specs.Step.{legal, back, last_price}
use Rattle.prices.specs.Rest.{resting_prices, at_rest, slides}
use Rattle.prices.proofs.FrameLaws.{seen, seen-inj, seen-keen, keen-either, reaches-true, reached}
use Rattle.prices.proofs.StepLaws.{Mpv, Legal, LegalIfAny, is-legal, legal-is, back-lt, back-high, last-legal}
use Rattle.prices.proofs.AimLaws.{faced, before, Aimed, aims-order, aims-limit, aims-away, aims-step}
use Rattle.lists.proofs.Bools.{and_left, and_right}

-- ---- sound prices of a sliding quote, as facts in the frame ----

pub record Slides (m : ℕ) (s : Bool) (l d w : ℕ) : Type 0 where
  pub limit : Legal m l
  pub shown : Legal m d
  pub works : Legal m w
  pub front : seen s d ≤ seen s w
  pub step : seen s (back m s w) ≤ seen s d
  pub inside : seen s w ≤ seen s l

pub is-slides : {m : ℕ} (s : Bool) (l d w : ℕ) → Legal m l → slides m s l d w ≡ true → Slides m s l d w
unfolding slides
is-slides {m} s l d w a h = record {
  limit = a;
  shown = is-legal m d (and_left (legal m d) (legal m w && (reaches s w d && (reaches s d (back m s w) && reaches s l w))) h);
  works = is-legal m w (and_left (legal m w) (reaches s w d && (reaches s d (back m s w) && reaches s l w)) h₁);
  front = reaches-true s w d (and_left (reaches s w d) (reaches s d (back m s w) && reaches s l w) h₂);
  step = reaches-true s d (back m s w) (and_left (reaches s d (back m s w)) (reaches s l w) h₃);
  inside = reaches-true s l w (and_right (reaches s d (back m s w)) (reaches s l w) h₃);
}
  where
    h₁ : (legal m w && (reaches s w d && (reaches s d (back m s w) && reaches s l w))) ≡ true
    h₁ = and_right (legal m d) (legal m w && (reaches s w d && (reaches s d (back m s w) && reaches s l w))) h

    h₂ : (reaches s w d && (reaches s d (back m s w) && reaches s l w)) ≡ true
    h₂ = and_right (legal m w) (reaches s w d && (reaches s d (back m s w) && reaches s l w)) h₁

    h₃ : (reaches s d (back m s w) && reaches s l w) ≡ true
    h₃ = and_right (reaches s w d) (reaches s d (back m s w) && reaches s l w) h₂

pub slides-is : {m l d w : ℕ} (s : Bool) → Mpv m → Slides m s l d w → slides m s l d w ≡ true
unfolding slides
slides-is {m} {l} {d} {w} s v sl = rw (
  legal-is sl.shown,
  legal-is sl.works,
  reached s w d (omega (arith, sl.works.high)) (omega (arith, sl.shown.high)) sl.front,
  reached s d (back m s w) (omega (arith, sl.shown.high)) (omega (arith, back-high s v sl.works)) sl.step,
  reached s l w (omega (arith, sl.limit.high)) (omega (arith, sl.works.high)) sl.inside,
)

-- ---- arrival: the aims of a quote that may be shown are sound prices ----

pub arrives : {m l a x : ℕ} (s : Bool) → Mpv m → Legal m l → LegalIfAny m a → (p : Prices) → Aimed m s l a x p
    → seen s (last_price m s) ≤ seen s p.display → Slides m s l p.display p.working
arrives {m} s v hl ga p ai h = record {
  limit = hl;
  shown = ai.near-display.legal (last_price m s) (last-legal s v) h;
  works = works;
  front = aims-order s v ga p ai;
  step = aims-step s v ga p ai works;
  inside = aims-limit s v ga p ai;
}
  where
    works : Legal m p.working
    works = ai.near-working.legal (last_price m s) (last-legal s v) (omega (arith, aims-order s v ga p ai))

-- ---- resting ----

-- works no further than the away price, or is shown where it works
pub record Eased (s : Bool) (a d w : ℕ) : Type 0 where
  pub eased : seen s w ≤ max (seen s d) (faced s a)

-- the aims do not go past what it has
pub record AtRest (s : Bool) (d w : ℕ) (p : Prices) : Type 0 where
  pub display : seen s p.display ≤ seen s d
  pub working : seen s p.working ≤ seen s w

module _ (s : Bool) (d : ℕ) (p : Prices) where
  pub moved-display : seen s (resting_prices s d p).display ≡ max (seen s d) (seen s p.display)
  unfolding resting_prices
  moved-display = seen-keen s d p.display

  pub moved-working : seen s (resting_prices s d p).working ≡ max (max (seen s d) (seen s p.display)) (seen s p.working)
  unfolding resting_prices
  moved-working = rw (seen-keen s (keen s d p.display) p.working, seen-keen s d p.display)

  -- A DISPLAY NEVER MOVES BACK, whatever the aims
  pub display-never-back : seen s d ≤ seen s (resting_prices s d p).display
  display-never-back = omega (arith, moved-display)

  pub moved-rests : AtRest s (resting_prices s d p).display (resting_prices s d p).working p
  moved-rests = record { display = omega (arith, moved-display); working = omega (arith, moved-working) }

-- a quote with limit l, display d and working price w, and its aims
module _ {m l a x d w : ℕ} (s : Bool) (v : Mpv m) (ga : LegalIfAny m a) (p : Prices) (ai : Aimed m s l a x p) (sl : Slides m s l d w) where
  -- an eased quote short of the contra price that it minds works no further than its display or its working aim
  pub reach : Eased s a d w → seen s w ≤ before m s x → seen s w ≤ max (seen s d) (seen s p.working)
  reach e h = go (leb (seen s w) (faced s a)) refl
    where
      go : (t : Bool) → leb (seen s w) (faced s a) ≡ t → seen s w ≤ max (seen s d) (seen s p.working)
      go true q =
          let k : seen s w ≤ faced s a = leb-true (seen s w) (faced s a) q in
          let j : seen s w ≤ seen s p.working = omega (arith, ai.working-is, sl.inside) in
          omega arith
      go false q =
          let k : faced s a < seen s w = leb-false (seen s w) (faced s a) q in
          let j : seen s w ≤ seen s d = omega (arith, e.eased) in
          omega arith

  pub moved-eased : Eased s a (resting_prices s d p).display (resting_prices s d p).working
  moved-eased = record { eased = omega (arith, aims-away s v ga p ai, moved-display s d p, moved-working s d p) }

  -- a move is never to less aggressive prices
  pub moved_on : seen s w ≤ max (seen s d) (seen s p.working) → seen s w ≤ seen s (resting_prices s d p).working
  moved_on h = omega (arith, moved-working s d p)

  -- and stays short of whatever the old working price and the working aim are short of
  pub moved-short : (c : ℕ) → seen s w < c → seen s p.working < c → seen s (resting_prices s d p).working < c
  moved-short c h k = omega (arith, moved-working s d p, aims-order s v ga p ai, sl.front)

  legal-display : Legal m (resting_prices s d p).display
  unfolding resting_prices
  legal-display = keen-either (Legal m) s d p.display sl.shown (λ h. ai.near-display.legal d sl.shown h)

  legal-working : Legal m (resting_prices s d p).working
  unfolding resting_prices
  legal-working = keen-either (Legal m) s (resting_prices s d p).display p.working legal-display
      (λ h. ai.near-working.legal (resting_prices s d p).display legal-display h)

  stepped : seen s (back m s (resting_prices s d p).working) ≤ seen s (resting_prices s d p).display
  unfolding resting_prices
  stepped = keen-either (λ (q : ℕ). seen s (back m s q) ≤ seen s (resting_prices s d p).display) s (resting_prices s d p).display p.working
      (omega (arith, back-lt s v legal-display))
      (λ h. omega (arith, moved-display s d p, aims-step s v ga p ai (ai.near-working.legal (resting_prices s d p).display legal-display h)))

  -- resting prices are sound: legal, in order, at most one step apart, not past the limit
  pub moved-slides : Slides m s l (resting_prices s d p).display (resting_prices s d p).working
  moved-slides = record {
    limit = sl.limit;
    shown = legal-display;
    works = legal-working;
    front = omega (arith, moved-display s d p, moved-working s d p);
    step = stepped;
    inside = omega (arith, moved-working s d p, aims-order s v ga p ai, aims-limit s v ga p ai, sl.front, sl.inside);
  }

  -- AT REST IS TWO INEQUALITIES: for a quote that works no further than its display or its working aim, and the other way round for any
  pub rest-is : AtRest s d w p → seen s w ≤ max (seen s d) (seen s p.working) → at_rest s d w p ≡ true
  unfolding at_rest
  rest-is r h = rw (eq-eqb d (resting_prices s d p).display same-display, eq-eqb w (resting_prices s d p).working same-working)
    where
      same-display : d ≡ (resting_prices s d p).display
      same-display = seen-inj s d (resting_prices s d p).display (omega (arith, sl.shown.high)) (omega (arith, legal-display.high))
          (omega (arith, moved-display s d p, r.display))

      same-working : w ≡ (resting_prices s d p).working
      same-working = seen-inj s w (resting_prices s d p).working (omega (arith, sl.works.high)) (omega (arith, legal-working.high))
          (omega (arith, moved-working s d p, r.display, r.working, sl.front))

pub is-rest : (s : Bool) (d w : ℕ) (p : Prices) → at_rest s d w p ≡ true → AtRest s d w p
unfolding at_rest
is-rest s d w p h = record {
  display =
      omega (
        arith,
        moved-display s d p,
        ap (seen s) (eqb-true d (resting_prices s d p).display (and_left (eqb d (resting_prices s d p).display) (eqb w (resting_prices s d p).working) h)),
      );
  working =
      omega (
        arith,
        moved-working s d p,
        ap (seen s) (eqb-true w (resting_prices s d p).working (and_right (eqb d (resting_prices s d p).display) (eqb w (resting_prices s d p).working) h)),
      );
}
