-- Reading a list from the front, and choosing one of its elements.
-- Assumes nothing.
use Rattle.std.specs.Prelude.{ℕ, Option, Some, None, ◌+◌, Bool, true, false, cond, List, [], ◌∷◌, ltb}

-- a state carried from element to element; each turn knows the place it is at
unfoldable pub scan : {A S : Type 0} → (S → ℕ → A → S) → S → ℕ → List A → S
scan turn s i [] = s
scan turn s i (x ∷ l) = scan turn (turn s i x) (i + 1) l

-- one more is met: it counts if it passes, by a test that knows the place
abbrev pub counting : {A : Type 0} → (ℕ → A → Bool) → ℕ → ℕ → A → ℕ
counting test n i x = cond (test i x) (n + 1) n

-- what a search has found: an element with its place, or nothing
pub data Found (A : Type 0) : Type 0 where
  nowhere : Found A
  found : ℕ → A → Found A

module _ {A : Type 0} where
  -- one turn: x, at place i, is taken if it passes and goes before what was found so far
  abbrev pub consider : (A → A → Bool) → Bool → ℕ → A → Found A → Found A
  consider before false i x f = f
  consider before true i x nowhere = found i x
  consider before true i x (found j y) = cond (before x y) (found i x) (found j y)

  abbrev pub choosing : (A → Bool) → (A → A → Bool) → Found A → ℕ → A → Found A
  choosing test before f i x = consider before (test x) i x f

  -- the first, by `before` and among equals by place, of those that pass
  unfoldable pub first : (A → Bool) → (A → A → Bool) → List A → Found A
  first test before l = scan (choosing test before) nowhere 0 l

  -- an ordering: the lesser key goes before
  abbrev pub lesser : (A → ℕ) → A → A → Bool
  lesser key x y = ltb (key x) (key y)

  -- an ordering: nothing goes before, so that place alone counts
  abbrev pub never : A → A → Bool
  never x y = false

  -- an element's key if it passes
  abbrev pub keyed : (A → Bool) → (A → ℕ) → A → Option ℕ
  keyed test key x = cond (test x) (Some (key x)) None
