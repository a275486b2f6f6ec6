-- The tests of rows of fields, and what they say.
use Prim.Native.Nat.{ℕ, ◌^◌}
use mathlib.Core.Bool.{Bool, true, false, ◌&&◌}
use mathlib.Core.List.{List, [], ◌∷◌}
use mathlib.Core.Path.{◌≡◌, refl, ap₂}
use native.Mathlib.Omega.{arith}
use lib.Dec.{eqb, ltb}
use lib.ListN.{length}
use borrow.Author.Tests.{eqb-true, eq-eqb, ltb-true, lt-ltb}
use Rattle.bits.specs.Fields.{Fit, Narrow, all_fit, equal}

-- a test of two parts; crate lists, which has these laws as `and_left` and `and_right`, is not among those that this one stands on
pub both_left : (a b : Bool) → (a && b) ≡ true → a ≡ true
both_left true b h = refl
both_left false b h = h

pub both_right : (a b : Bool) → (a && b) ≡ true → b ≡ true
both_right true b h = h
both_right false b h = absurd (let z : ◌≡◌ {A = ℕ} 0 1 = cc in omega arith)

-- the test `equal` says that two rows are the same
pub equal-true : (xs ys : List ℕ) → equal xs ys ≡ true → xs ≡ ys
equal-true [] [] h = refl
equal-true [] (y ∷ ys) h = absurd (let z : ◌≡◌ {A = ℕ} 0 1 = cc in omega arith)
equal-true (x ∷ xs) [] h = absurd (let z : ◌≡◌ {A = ℕ} 0 1 = cc in omega arith)
equal-true (x ∷ xs) (y ∷ ys) h =
    ap₂ {C = List ℕ} (λ (z : ℕ) (zs : List ℕ). z ∷ zs)
    (eqb-true x y (both_left (eqb x y) (equal xs ys) h))
    (equal-true xs ys (both_right (eqb x y) (equal xs ys) h))

pub equal-refl : (xs : List ℕ) → equal xs xs ≡ true
equal-refl [] = refl
equal-refl (x ∷ xs) = ap₂ ◌&&◌ (eq-eqb x x refl) (equal-refl xs)

-- the test `all_fit` says that each field fits its width
pub all_fit-true : (ws xs : List ℕ) → all_fit ws xs ≡ true → Fit ws xs
all_fit-true [] [] h = tt
all_fit-true [] (x ∷ xs) h = let z : ◌≡◌ {A = ℕ} 0 1 = cc in omega arith
all_fit-true (w ∷ ws) [] h = let z : ◌≡◌ {A = ℕ} 0 1 = cc in omega arith
all_fit-true (w ∷ ws) (x ∷ xs) h =
    (ltb-true x (2 ^ w) (both_left (ltb x (2 ^ w)) (all_fit ws xs) h), all_fit-true ws xs (both_right (ltb x (2 ^ w)) (all_fit ws xs) h))

pub fit-all_fit : (ws xs : List ℕ) → Fit ws xs → all_fit ws xs ≡ true
fit-all_fit [] [] h = refl
fit-all_fit (w ∷ ws) (x ∷ xs) h = ap₂ ◌&&◌ (lt-ltb x (2 ^ w) h.0) (fit-all_fit ws xs h.1)
fit-all_fit [] (x ∷ xs) h = elim h [ ]
fit-all_fit (w ∷ ws) [] h = elim h [ ]

-- whether all fit, told by the fields ys of widths us that are left
pub record Fitting (ws xs us ys : List ℕ) : Type 0 where
  pub narrow : Narrow us
  pub long : length ys ≡ length us
  pub same : all_fit ws xs ≡ all_fit us ys
