-- Tests put to the elements of a list: as facts (All) and as answers (all, any, pairs, count); and the first of several tests that holds (first_holding).
-- Assumes nothing.
use Rattle.std.specs.Prelude.{ℕ, ◌+◌, Bool, true, false, cond, ◌&&◌, ◌||◌, List, [], ◌∷◌}

-- one that passes, or none
abbrev pub one : Bool → ℕ
one false = 0
one true = 1

module _ {A : Type 0} where
  -- P of every element
  abbrev pub All : (A → Type 0) → List A → Type 0
  All P [] = Unit {0}
  All P (x ∷ l) = P x × All P l

  -- every element passes; some element does; every two do, the one that stands earlier first
  unfoldable pub all : (A → Bool) → List A → Bool
  all test [] = true
  all test (x ∷ l) = test x && all test l

  unfoldable pub any : (A → Bool) → List A → Bool
  any test [] = false
  any test (x ∷ l) = test x || any test l

  unfoldable pub pairs : (A → A → Bool) → List A → Bool
  pairs test [] = true
  pairs test (x ∷ l) = all (test x) l && pairs test l

  -- how many pass
  abbrev pub count : (A → Bool) → List A → ℕ
  count test [] = 0
  count test (x ∷ l) = one (test x) + count test l

-- the number of the first test of a list that holds, 0 where none does
abbrev pub first_holding : List (ℕ × Bool) → ℕ
first_holding [] = 0
first_holding (t ∷ ts) = cond t.1 t.0 (first_holding ts)
