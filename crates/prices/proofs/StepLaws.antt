-- THE LAWS OF THE STEP, for the pairs that M names, in the frame of a side: positive, back-lt, back-grid, back-high, back-legal, last-legal, past-last,
-- within-last, and what `apart` counts. Every other law knows a step by these alone, so that another grid moves this file, the laws of any pair (GridLaws,
-- CountLaws) and specs/Step, and what says the same in plain words (crate soundness, specs/SoundBook and DecideLaws).
-- Assumes nothing.
use Prim.Native.Nat.{ℕ, ◌+◌, ◌-◌, ◌/◌, ◌≤◌, ◌<◌, ◌%◌, min}
use mathlib.Core.Path.{◌≡◌, refl}
use mathlib.Core.Bool.{Bool, true, false, cond, not, ◌&&◌, ◌||◌}
use native.Mathlib.Nat.{mod_self, div-one}
use native.Mathlib.Omega.{arith}
use borrow.Author.Tests.{leb-true, leb-false, eqb-true, eqb-false, le-leb, ne_eqb, not-true, not-false}
use lib.Dec.{eqb, leb, ltb}
use Rattle.prices.specs.Side.{Aggressive, Short, reaches}
use Rattle.prices.specs.Step.{steps_of, mpv, on_grid, legal, none_or_legal, up, down, back, last_price, top_price, change, rung, apart}
use Rattle.prices.proofs.FrameLaws.{seen, reaches-true, reaches-false}
use Rattle.prices.proofs.GridLaws.{Grid, OnGrid, is-on-grid, on-grid-is, up_more, down-less, none_above, none_below, up-on, down-on}
use Rattle.prices.proofs.CountLaws.{after, after-up, after-down, after-end, rung-mono, rung-less, less-rung, same-rung}
use Rattle.lists.proofs.Bools.{clash, and_left, and_right}

-- ---- the tests as facts ----

-- WHAT EVERY LAW KNOWS OF THE PAIR THAT M NAMES, whichever it is: it makes a grid, the top price lies on it, and neither step is longer than 10
pub record Mpv (m : ℕ) : Type 0 where
  pub grid : Grid (steps_of m)
  pub top : top_price % (steps_of m).large ≡ 0
  pub short : (m ≤ 10) × ((steps_of m).large ≤ 10)

-- the pairs there are
pub data Named : ℕ → Type 0 where
  cent : Named 1
  nickel : Named 5

pub record Legal (m p : ℕ) : Type 0 where
  pub low : m ≤ p
  pub high : p ≤ top_price
  pub grid : OnGrid (steps_of m) p

-- none, or legal
pub record LegalIfAny (m p : ℕ) : Type 0 where
  pub legal : eqb p 0 ≡ false → Legal m p

pub is-named : (m : ℕ) → mpv m ≡ true → Named m
unfolding mpv
is-named m h = go (eqb m 1) refl (eqb m 5) refl h
  where
    go : (a : Bool) → eqb m 1 ≡ a → (b : Bool) → eqb m 5 ≡ b → (a || b) ≡ true → Named m
    go true e b f k = rw (eqb-true m 1 e) cent
    go false e true f k = rw (eqb-true m 5 f) nickel
    go false e false f k = clash k refl

pair_of : {m : ℕ} → Named m → Mpv m
pair_of cent = record {
  grid = record { small-some = omega arith; large-some = omega arith; small-divides = refl; large-divides = refl };
  top = refl;
  short = (omega arith, omega arith);
}
pair_of nickel = record {
  grid = record { small-some = omega arith; large-some = omega arith; small-divides = refl; large-divides = refl };
  top = refl;
  short = (omega arith, omega arith);
}

pub is-mpv : (m : ℕ) → mpv m ≡ true → Mpv m
is-mpv m h = pair_of (is-named m h)

pub is-legal : (m p : ℕ) → legal m p ≡ true → Legal m p
unfolding legal
is-legal m p h =
    let on = on_grid (steps_of m) p in
    let rest = and_right (leb m p) (leb p top_price && on) h in
    record {
      low = leb-true m p (and_left (leb m p) (leb p top_price && on) h);
      high = leb-true p top_price (and_left (leb p top_price) on rest);
      grid = is-on-grid (steps_of m) p (and_right (leb p top_price) on rest);
    }

pub legal-is : {m p : ℕ} → Legal m p → legal m p ≡ true
unfolding legal
legal-is {m} {p} a = rw (le-leb m p a.low, le-leb p top_price a.high, on-grid-is a.grid)

pub is-none-or-legal : (m p : ℕ) → none_or_legal m p ≡ true → LegalIfAny m p
unfolding none_or_legal
is-none-or-legal m p h = record { legal = λ e. is-legal m p (rw e at h) }

pub if-any-is : {m p : ℕ} → LegalIfAny m p → none_or_legal m p ≡ true
unfolding none_or_legal
if-any-is {m} {p} g = go (eqb p 0) refl
  where
    go : (b : Bool) → eqb p 0 ≡ b → (b || legal m p) ≡ true
    go true e = refl
    go false e = legal-is (g.legal e)

pub if-any-none : {m : ℕ} → LegalIfAny m 0
if-any-none = record { legal = λ e. absurd (eqb-false 0 0 e refl) }

pub given-legal : {m p : ℕ} → Legal m p → LegalIfAny m p
given-legal a = record { legal = λ _. a }

-- ---- the pairs there are, and the count by constant divisors, as the code has it ----
-- No proof cites them, since the check finds what they say: a further pair is one more case of each.

pub other-named : {m : ℕ} → Named m → (m ≡ 1 → ⊥) → m ≡ 5
other-named cent other = absurd (other refl)
other-named nickel other = refl

pub rung-by : {m : ℕ} → Named m → (p : ℕ)
    → cond (eqb m 1) (p - (p - change) + (p - change) / 5) ((p - (p - change)) / 5 + (p - change) / 10) ≡ rung (steps_of m) p
unfolding rung
rung-by cent p = rw (div-one (min p change)) (omega arith)
rung-by nickel p = let e : min p change ≡ p - (p - change) = omega arith in rw e refl

-- "One step below 300 is 299 or 295; one step above is 305 or 310."
pub below-the-change : (down (steps_of 1) 300 ≡ 299) × (down (steps_of 5) 300 ≡ 295)
unfolding down
below-the-change = (refl, refl)

pub above-the-change : (up (steps_of 1) 300 ≡ 305) × (up (steps_of 5) 300 ≡ 310)
unfolding up
above-the-change = (refl, refl)

-- ---- the laws ----

pub small : {m : ℕ} → Mpv m → (1 ≤ m) × (m ≤ 10)
small v = (v.grid.small-some, v.short.0)

pub step-few : {m : ℕ} → Mpv m → (fine : Bool) → cond fine m (steps_of m).large ≤ 10
step-few v true = v.short.0
step-few v false = v.short.1

-- no legal price is 0
pub positive : {m p : ℕ} → Mpv m → Legal m p → 1 ≤ p
positive v a = omega (arith, small v, a.low)

pub present : {m p : ℕ} → Mpv m → Legal m p → eqb p 0 ≡ false
present {m} {p} v a = ne_eqb p 0 (λ e. omega (arith, positive v a))

-- one step back is less aggressive
pub back-lt : {m p : ℕ} (s : Bool) → Mpv m → Legal m p → seen s (back m s p) < seen s p
unfolding seen back
back-lt {m} {p} false v a = down-less v.grid p (positive v a)
back-lt {m} {p} true v a = omega (arith, up_more v.grid p, a.high)

-- and no legal price lies between
pub back-grid : {m p q : ℕ} (s : Bool) → Mpv m → Legal m p → Legal m q → seen s p < seen s q → seen s p ≤ seen s (back m s q)
unfolding seen back
back-grid {m} {p} {q} false v a b h = none_below v.grid a.grid b.grid h
back-grid {m} {p} {q} true v a b h =
    let qp : q < p = omega (arith, a.high, b.high, h) in omega (arith, none_above v.grid b.grid a.grid qp)

-- and no further out than 10
pub back-high : {m p : ℕ} (s : Bool) → Mpv m → Legal m p → back m s p ≤ 100010
unfolding back up down
back-high false v a = omega (arith, a.high)
back-high {m} {p} true v a = omega (arith, step-few v (ltb p change), a.high)

-- one step back lies on the grid,
pub back_on : {m p : ℕ} (s : Bool) → Mpv m → Legal m p → OnGrid (steps_of m) (back m s p)
unfolding back
back_on false v a = down-on v.grid a.grid (positive v a)
back_on true v a = up-on v.grid a.grid

-- and is legal where some legal price is no more aggressive
pub back-legal : {m p q : ℕ} (s : Bool) → Mpv m → Legal m p → Legal m q → seen s q ≤ seen s (back m s p) → Legal m (back m s p)
unfolding seen
back-legal false v a b h = record { low = omega (arith, b.low, h); high = omega (arith, a.high, back-lt false v a); grid = back_on false v a }
back-legal true v a b h = record { low = omega (arith, a.low, back-lt true v a); high = omega (arith, b.high, h); grid = back_on true v a }

-- the last price is the least aggressive legal one, and to be past it is to be less aggressive
pub last-legal : {m : ℕ} (s : Bool) → Mpv m → Legal m (last_price m s)
unfolding last_price
last-legal {m} false v = record {
  low = omega arith;
  high = omega (arith, v.short.0);
  grid = record { fine = λ _. mod_self m; coarse = λ c. absurd (omega (arith, v.short.0, c)) };
}
last-legal true v = record {
  low = omega (arith, v.short.0);
  high = omega arith;
  grid = record { fine = λ c. absurd (omega (arith, c)); coarse = λ _. v.top };
}

pub last-least : {m p : ℕ} (s : Bool) → Legal m p → seen s (last_price m s) ≤ seen s p
unfolding seen last_price
last-least false a = a.low
last-least true a = omega (arith, a.high)

pub within-last : (m p : ℕ) (s : Bool) → not (reaches s p (last_price m s)) ≡ false → seen s (last_price m s) ≤ seen s p
within-last m p s e = reaches-true s p (last_price m s) (not-false (reaches s p (last_price m s)) e)

pub past-last : {m : ℕ} (p : ℕ) (s : Bool) → Mpv m → p ≤ 200000 → not (reaches s p (last_price m s)) ≡ true → seen s p < seen s (last_price m s)
past-last {m} p s v h e =
    reaches-false s p (last_price m s) h (omega (arith, (last-legal s v).high)) (not-true (reaches s p (last_price m s)) e)

-- ---- how many steps ----

-- WHAT `apart` SAYS IS WHAT COUNTING ONE BY ONE GIVES: n steps back from l it says n, as long as they lead somewhere (below 0 there is nothing),
pub counted : {m l : ℕ} (s : Bool) (n : ℕ) → Mpv m → Legal m l → (s ≡ false → n ≤ rung (steps_of m) l) → apart m s l (after n (back m s) l) ≡ n
unfolding apart back
counted false n v a few = omega (arith, (after-down v.grid n a.grid (few refl)).1, few refl)
counted true n v a few = omega (arith, (after-up v.grid n a.grid).1)

-- as many steps as it says lead from l to every d of the grid that is no more aggressive,
pub counted-to : {m l d : ℕ} (s : Bool) → Mpv m → Legal m l → OnGrid (steps_of m) d → Aggressive s l d → after (apart m s l d) (back m s) l ≡ d
unfolding apart back
counted-to {m} {l} {d} false v a b h =
    let r = after-down v.grid (rung (steps_of m) l - rung (steps_of m) d) a.grid (omega arith) in
    same-rung v.grid r.0 b (omega (arith, r.1, rung-mono v.grid d l h))
counted-to {m} {l} {d} true v a b h =
    let r = after-up v.grid (rung (steps_of m) d - rung (steps_of m) l) a.grid in
    same-rung v.grid r.0 b (omega (arith, r.1, rung-mono v.grid l d h))

-- and it is more than k exactly where d lies short of the price k steps back
pub counted-past : {m l d : ℕ} (s : Bool) (k : ℕ) → Mpv m → Legal m l → OnGrid (steps_of m) d
    → (k < apart m s l d → Short s d (after k (back m s) l)) × (Short s d (after k (back m s) l) → k < apart m s l d)
unfolding apart back
counted-past {m} {l} {d} false k v a b = go (leb k (rung (steps_of m) l)) refl
  where
    g : Grid (steps_of m)
    g = v.grid

    go : (t : Bool) → leb k (rung (steps_of m) l) ≡ t
        → (k < rung (steps_of m) l - rung (steps_of m) d → d < after k (down (steps_of m)) l)
        × (d < after k (down (steps_of m)) l → k < rung (steps_of m) l - rung (steps_of m) d)
    go true e =
        let r = after-down g k a.grid (leb-true k (rung (steps_of m) l) e) in (
          λ h. less-rung g d (after k (down (steps_of m)) l) (omega (arith, r.1, h)),
          λ h. omega (arith, r.1, rung-less g b r.0 h),
        )
    go false e =
        let past = leb-false k (rung (steps_of m) l) e in
        let z = after-end g k a.grid (omega (arith, past)) in
        (λ h. absurd (omega (arith, past, h)), λ h. absurd (omega (arith, z, h)))
counted-past {m} {l} {d} true k v a b =
    let r = after-up v.grid k a.grid in (
      λ h. less-rung v.grid (after k (up (steps_of m)) l) d (omega (arith, r.1, h)),
      λ h. omega (arith, r.1, rung-less v.grid r.0 b h),
    )
