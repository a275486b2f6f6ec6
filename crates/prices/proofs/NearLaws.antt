-- A display that is legal and at most one step behind a legal working price, told without asking the grid: it is that price or the next one behind it.
-- Assumes nothing.
use Prim.Native.Nat.{ℕ, ◌≤◌}
use mathlib.Core.Path.{◌≡◌, refl}
use mathlib.Core.Bool.{Bool, true, false, ◌&&◌, ◌||◌}
use native.Mathlib.Omega.{arith}
use borrow.Author.Tests.{eqb-true, eqb-false, eq-eqb}
use lib.Dec.{eqb}
use Rattle.prices.specs.Side.{reaches}
use Rattle.prices.specs.Step.{legal, back, last_price}
use Rattle.prices.specs.Rest.{shown_near}
use Rattle.prices.proofs.FrameLaws.{seen, seen-inj, reaches-true, reached}
use Rattle.prices.proofs.StepLaws.{Mpv, Legal, is-legal, legal-is, back-lt, back-grid, back-high, back-legal, last-legal, last-least}
use Rattle.lists.proofs.Bools.{agree, and_left, and_right, and_both}

module _ {m w : ℕ} (s : Bool) (d : ℕ) (v : Mpv m) (a : Legal m w) where
  -- at the working price
  near-at : d ≡ w → shown_near m s d w ≡ true
  near-at e =
      let high : w ≤ 200000 = omega (arith, a.high) in
      rw (
        e,
        legal-is a,
        reached s w w high high (omega arith),
        reached s w (back m s w) high (omega (arith, back-high s v a)) (omega (arith, back-lt s v a)),
      )

  -- or one step behind it, where that is a price
  near-behind : d ≡ back m s w → reaches s d (last_price m s) ≡ true → shown_near m s d w ≡ true
  near-behind e h =
      let high : w ≤ 200000 = omega (arith, a.high) in
      let low : back m s w ≤ 200000 = omega (arith, back-high s v a) in
      let within : seen s (last_price m s) ≤ seen s (back m s w) = reaches-true s (back m s w) (last_price m s) (rw e at h) in
      rw (
        e,
        legal-is (back-legal s v a (last-legal s v) within),
        reached s w (back m s w) high low (omega (arith, back-lt s v a)),
        reached s (back m s w) (back m s w) low low (omega arith),
      )

  -- AND NOWHERE ELSE
  pub near-is : (eqb d w || (eqb d (back m s w) && reaches s d (last_price m s))) ≡ shown_near m s d w
  near-is = agree (eqb d w || (eqb d (back m s w) && reaches s d (last_price m s))) (shown_near m s d w) (told (eqb d w) refl) (tells (eqb d w) refl)
    where
      told : (b : Bool) → eqb d w ≡ b → (b || (eqb d (back m s w) && reaches s d (last_price m s))) ≡ true → shown_near m s d w ≡ true
      told true e h = near-at (eqb-true d w e)
      told false e h =
          near-behind (eqb-true d (back m s w) (and_left (eqb d (back m s w)) (reaches s d (last_price m s)) h))
          (and_right (eqb d (back m s w)) (reaches s d (last_price m s)) h)

      tells : (b : Bool) → eqb d w ≡ b → shown_near m s d w ≡ true → (b || (eqb d (back m s w) && reaches s d (last_price m s))) ≡ true
      tells true e h = refl
      tells false e h =
          let k : Legal m d = is-legal m d (and_left (legal m d) (reaches s w d && reaches s d (back m s w)) h) in
          let both = and_right (legal m d) (reaches s w d && reaches s d (back m s w)) h in
          let front = reaches-true s w d (and_left (reaches s w d) (reaches s d (back m s w)) both) in
          let step = reaches-true s d (back m s w) (and_right (reaches s w d) (reaches s d (back m s w)) both) in
          let dh : d ≤ 200000 = omega (arith, k.high) in
          let other : seen s d ≡ seen s w → ⊥ = λ z. eqb-false d w e (seen-inj s d w dh (omega (arith, a.high)) z) in
          let before : seen s d ≤ seen s (back m s w) = back-grid s v k a (omega (arith, front, other)) in
          let same : d ≡ back m s w = seen-inj s d (back m s w) dh (omega (arith, back-high s v a)) (omega (arith, before, step)) in
          and_both (eqb d (back m s w)) (reaches s d (last_price m s)) (eq-eqb d (back m s w) same)
          (reached s d (last_price m s) dh (omega (arith, (last-legal s v).high)) (last-least s k))
