-- THE LAWS OF THE GRID, FOR ANY PAIR OF STEPS: both positive and both divisors of the place of change; neither need divide the other. A step up and a step
-- down undo each other, also across the change, and no price of the grid lies between neighbours.
-- Assumes nothing.
use Prim.Native.Nat.{ℕ, ◌+◌, ◌-◌, ◌*◌, ◌/◌, ◌≤◌, ◌<◌, ◌%◌}
use mathlib.Core.Path.{◌≡◌, refl, sym, ◌∙◌}
use mathlib.Core.Bool.{Bool, true, false, cond}
use mathlib.Core.Logic.{◌⊎◌, inl, inr}
use native.Mathlib.Nat.{zero-mod, add-mod_right, mod-eq-sub-mod, div-add-mod', mul-le-mul_right, lt_of_mul-lt-mul_right, suc-mul}
use native.Mathlib.Omega.{arith}
use borrow.Author.Tests.{eqb-true, eq-eqb, ltb-true, ltb-false, leb-true, leb-false, lt-ltb, le-ltb, le-leb, lt-leb}
use lib.Dec.{eqb, leb, ltb}
use Rattle.prices.specs.Step.{Steps, change, on_grid, up, down}

-- a pair that makes a grid
pub record Grid (g : Steps) : Type 0 where
  pub small-some : 1 ≤ g.small
  pub large-some : 1 ≤ g.large
  pub small-divides : change % g.small ≡ 0
  pub large-divides : change % g.large ≡ 0

-- p lies on the grid
pub record OnGrid (g : Steps) (p : ℕ) : Type 0 where
  pub fine : p < change → p % g.small ≡ 0
  pub coarse : change ≤ p → p % g.large ≡ 0

pub is-on-grid : (g : Steps) (p : ℕ) → on_grid g p ≡ true → OnGrid g p
unfolding on_grid
is-on-grid g p h = go (ltb p change) refl h
  where
    go : (b : Bool) → ltb p change ≡ b → cond b (eqb (p % g.small) 0) (eqb (p % g.large) 0) ≡ true → OnGrid g p
    go true e k = record { fine = λ _. eqb-true (p % g.small) 0 k; coarse = λ c. absurd (omega (arith, ltb-true p change e, c)) }
    go false e k = record { fine = λ c. absurd (omega (arith, ltb-false p change e, c)); coarse = λ _. eqb-true (p % g.large) 0 k }

pub on-grid-is : {g : Steps} {p : ℕ} → OnGrid g p → on_grid g p ≡ true
unfolding on_grid
on-grid-is {g} {p} a = go (ltb p change) refl
  where
    go : (b : Bool) → ltb p change ≡ b → cond b (eqb (p % g.small) 0) (eqb (p % g.large) 0) ≡ true
    go true e = eq-eqb (p % g.small) 0 (a.fine (ltb-true p change e))
    go false e = eq-eqb (p % g.large) 0 (a.coarse (ltb-false p change e))

-- ---- multiples of one step ----

-- between two multiples lies a step at least
multiples-gap : (s p q : ℕ) → p % s ≡ 0 → q % s ≡ 0 → p < q → p + s ≤ q
multiples-gap s p q a b h =
    let pe : p / s * s ≡ p = omega (arith, div-add-mod' p s, a) in
    let qe : q / s * s ≡ q = omega (arith, div-add-mod' q s, b) in
    let lt : p / s < q / s = lt_of_mul-lt-mul_right s (omega (arith, pe, qe, h)) in
    let le : (p / s + 1) * s ≤ q / s * s = mul-le-mul_right s (omega (arith, lt)) in
    omega (arith, pe, qe, le, suc-mul (p / s) s)

multiple-up : (s p : ℕ) → p % s ≡ 0 → (p + s) % s ≡ 0
multiple-up s p a = add-mod_right p s ∙ a

multiple-down : (s p : ℕ) → p % s ≡ 0 → s ≤ p → (p - s) % s ≡ 0
multiple-down s p a h = sym (mod-eq-sub-mod h) ∙ a

-- ---- a step, by the side of the change that it lies on ----

pub up-fine : (g : Steps) (p : ℕ) → p < change → up g p ≡ p + g.small
unfolding up
up-fine g p h = rw (lt-ltb p change h)

pub up-coarse : (g : Steps) (p : ℕ) → change ≤ p → up g p ≡ p + g.large
unfolding up
up-coarse g p h = rw (le-ltb p change h)

pub down-fine : (g : Steps) (p : ℕ) → p ≤ change → down g p ≡ p - g.small
unfolding down
down-fine g p h = rw (le-leb p change h)

pub down-coarse : (g : Steps) (p : ℕ) → change < p → down g p ≡ p - g.large
unfolding down
down-coarse g p h = rw (lt-leb p change h)

pub below-or-from : (p : ℕ) → (p < change) ⊎ (change ≤ p)
below-or-from p = go (ltb p change) refl
  where
    go : (b : Bool) → ltb p change ≡ b → (p < change) ⊎ (change ≤ p)
    go true e = inl (ltb-true p change e)
    go false e = inr (ltb-false p change e)

pub to-or-past : (p : ℕ) → (p ≤ change) ⊎ (change < p)
to-or-past p = go (leb p change) refl
  where
    go : (b : Bool) → leb p change ≡ b → (p ≤ change) ⊎ (change < p)
    go true e = inl (leb-true p change e)
    go false e = inr (leb-false p change e)

module _ {g : Steps} (v : Grid g) where
  -- the change itself lies on both
  pub change-on : OnGrid g change
  change-on = record { fine = λ _. v.small-divides; coarse = λ _. v.large-divides }

  pub fine-to : {p : ℕ} → OnGrid g p → p ≤ change → p % g.small ≡ 0
  fine-to {p} a h = go (below-or-from p)
    where
      go : (p < change) ⊎ (change ≤ p) → p % g.small ≡ 0
      go (inl k) = a.fine k
      go (inr k) = let e : p ≡ change = omega (arith, h, k) in rw e v.small-divides

  -- up to the change prices lie a small step apart, from there a large one
  gap-fine : {p q : ℕ} → OnGrid g p → OnGrid g q → q ≤ change → p < q → p + g.small ≤ q
  gap-fine {p} {q} a b k h = multiples-gap g.small p q (fine-to a (omega (arith, h, k))) (fine-to b k) h

  gap-coarse : {p q : ℕ} → OnGrid g p → OnGrid g q → change ≤ p → p < q → p + g.large ≤ q
  gap-coarse {p} {q} a b k h = multiples-gap g.large p q (a.coarse k) (b.coarse (omega (arith, h, k))) h

  pub small-within : {p : ℕ} → OnGrid g p → p ≤ change → 1 ≤ p → g.small ≤ p
  small-within {p} a k h = omega (arith, multiples-gap g.small 0 p (zero-mod g.small) (fine-to a k) h)

  -- a step leads somewhere
  pub up_more : (p : ℕ) → p < up g p
  up_more p = go (below-or-from p)
    where
      go : (p < change) ⊎ (change ≤ p) → p < up g p
      go (inl k) = omega (arith, up-fine g p k, v.small-some)
      go (inr k) = omega (arith, up-coarse g p k, v.large-some)

  pub down-less : (p : ℕ) → 1 ≤ p → down g p < p
  down-less p h = go (to-or-past p)
    where
      go : (p ≤ change) ⊎ (change < p) → down g p < p
      go (inl k) = omega (arith, h, down-fine g p k, v.small-some)
      go (inr k) = omega (arith, h, down-coarse g p k, v.large-some)

  -- NO PRICE LIES BETWEEN NEIGHBOURS
  pub none_above : {p q : ℕ} → OnGrid g p → OnGrid g q → p < q → up g p ≤ q
  none_above {p} {q} a b h = go (below-or-from p) (to-or-past q)
    where
      go : (p < change) ⊎ (change ≤ p) → (q ≤ change) ⊎ (change < q) → up g p ≤ q
      go (inl k) (inl j) = omega (arith, up-fine g p k, gap-fine a b j h)
      go (inl k) (inr j) = omega (arith, up-fine g p k, gap-fine a change-on (omega arith) k, j)
      go (inr k) j = omega (arith, up-coarse g p k, gap-coarse a b k h)

  pub none_below : {p q : ℕ} → OnGrid g p → OnGrid g q → p < q → p ≤ down g q
  none_below {p} {q} a b h = go (to-or-past q) (below-or-from p)
    where
      go : (q ≤ change) ⊎ (change < q) → (p < change) ⊎ (change ≤ p) → p ≤ down g q
      go (inl k) j = omega (arith, down-fine g q k, gap-fine a b k h)
      go (inr k) (inl j) = omega (arith, down-coarse g q k, gap-coarse change-on b (omega arith) k, j)
      go (inr k) (inr j) = omega (arith, down-coarse g q k, gap-coarse a b j h)

  -- A STEP DOWN UNDOES A STEP UP, and the other way about, but for 0, below which there is none
  pub down-up : {p : ℕ} → OnGrid g p → down g (up g p) ≡ p
  down-up {p} a = go (below-or-from p)
    where
      go : (p < change) ⊎ (change ≤ p) → down g (up g p) ≡ p
      go (inl k) =
          let u = up-fine g p k in
          let to : up g p ≤ change = none_above a change-on k in
          omega (arith, u, down-fine g (up g p) to)
      go (inr k) =
          let u = up-coarse g p k in
          let past : change < up g p = omega (arith, k, up_more p) in
          omega (arith, u, down-coarse g (up g p) past)

  pub up-down : {p : ℕ} → OnGrid g p → 1 ≤ p → up g (down g p) ≡ p
  up-down {p} a h = go (to-or-past p)
    where
      go : (p ≤ change) ⊎ (change < p) → up g (down g p) ≡ p
      go (inl k) =
          let d = down-fine g p k in
          let below : down g p < change = omega (arith, k, down-less p h) in
          omega (arith, d, up-fine g (down g p) below, small-within a k h)
      go (inr k) =
          let d = down-coarse g p k in
          let from : change ≤ down g p = none_below change-on a k in
          omega (arith, d, up-coarse g (down g p) from, gap-coarse change-on a (omega arith) k)

  -- a step from the grid stays on it
  pub up-on : {p : ℕ} → OnGrid g p → OnGrid g (up g p)
  up-on {p} a = go (below-or-from p)
    where
      go : (p < change) ⊎ (change ≤ p) → OnGrid g (up g p)
      go (inl k) = record {
        fine = λ _. rw (up-fine g p k) (multiple-up g.small p (a.fine k));
        coarse = λ c. let e : up g p ≡ change = omega (arith, none_above a change-on k, c) in rw e v.large-divides;
      }
      go (inr k) = record {
        fine = λ c. absurd (omega (arith, k, up_more p, c));
        coarse = λ _. rw (up-coarse g p k) (multiple-up g.large p (a.coarse k));
      }

  pub down-on : {p : ℕ} → OnGrid g p → 1 ≤ p → OnGrid g (down g p)
  down-on {p} a h = go (to-or-past p)
    where
      go : (p ≤ change) ⊎ (change < p) → OnGrid g (down g p)
      go (inl k) = record {
        fine = λ _. rw (down-fine g p k) (multiple-down g.small p (fine-to a k) (small-within a k h));
        coarse = λ c. absurd (omega (arith, k, down-less p h, c));
      }
      go (inr k) =
          let wide = gap-coarse change-on a (omega arith) k in
          record {
            fine = λ c. absurd (omega (arith, none_below change-on a k, c));
            coarse = λ _. rw (down-coarse g p k) (multiple-down g.large p (a.coarse (omega (arith, k))) (omega (arith, wide)));
          }
