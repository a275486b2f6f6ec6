-- Laws of Bool: what a test that came out true or false tells of its parts.
-- Assumes nothing.
use Prim.Native.Nat.{ℕ, ◌≤◌}
use mathlib.Core.Path.{◌≡◌, refl, sym}
use mathlib.Core.Bool.{Bool, true, false, cond, not, ◌&&◌, ◌||◌, beq}
use native.Mathlib.Omega.{arith}

-- nothing is both
pub clash : {A : Type 0} {b : Bool} → b ≡ true → b ≡ false → A
clash p q = let z : ◌≡◌ {A = ℕ} 0 1 = cc in absurd (omega arith)

pub and_left : (a b : Bool) → (a && b) ≡ true → a ≡ true
and_left true b e = refl
and_left false b e = e

pub and_right : (a b : Bool) → (a && b) ≡ true → b ≡ true
and_right true b e = e
and_right false b e = clash e refl

pub and_parts : (a b : Bool) → (a && b) ≡ true → (a ≡ true) × (b ≡ true)
and_parts a b e = (and_left a b e, and_right a b e)

pub and_both : (a b : Bool) → a ≡ true → b ≡ true → (a && b) ≡ true
and_both a b p q = rw (p, q)

pub or-false-left : (a b : Bool) → (a || b) ≡ false → a ≡ false
or-false-left true b e = e
or-false-left false b e = refl

pub or-false-right : (a b : Bool) → (a || b) ≡ false → b ≡ false
or-false-right true b e = clash refl e
or-false-right false b e = e

-- neither holds just if it is not so that one of them does
pub not-either : (a b : Bool) → (not a && not b) ≡ not (a || b)
not-either true b = refl
not-either false b = refl

-- two tests that hold together are one
pub agree : (a b : Bool) → (a ≡ true → b ≡ true) → (b ≡ true → a ≡ true) → a ≡ b
agree true b f g = sym (f refl)
agree false true f g = g refl
agree false false f g = refl

-- the test whether two are the same
pub beq-true : (a b : Bool) → beq a b ≡ true → a ≡ b
beq-true true true e = refl
beq-true true false e = sym e
beq-true false true e = e
beq-true false false e = refl

pub beq-false : (a b : Bool) → beq a b ≡ false → a ≡ b → ⊥
beq-false true true e h = clash refl e
beq-false true false e h = clash refl h
beq-false false true e h = clash h refl
beq-false false false e h = clash refl e

pub eq-beq : (a b : Bool) → a ≡ b → beq a b ≡ true
eq-beq true b e = rw (← e)
eq-beq false b e = rw (← e)

-- a choice that came out 0, where the first number is another
pub cond-zero : (b : Bool) (n x : ℕ) → 1 ≤ n → cond b n x ≡ 0 → (b ≡ false) × (x ≡ 0)
cond-zero true n x k h = absurd (omega arith)
cond-zero false n x k h = (refl, h)

-- what holds of both arms of a choice holds of the choice
pub cond_either : {A : Type 0} (P : A → Type 0) (b : Bool) (x y : A) → (b ≡ true → P x) → (b ≡ false → P y) → P (cond b x y)
cond_either P true x y f g = f refl
cond_either P false x y f g = g refl
