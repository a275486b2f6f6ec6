-- What std's tests of a list answer is what those of crate lists do.
-- Assumes nothing.
use mathlib.Core.Path.{◌≡◌, refl, ap}
use mathlib.Core.Bool.{Bool, ◌&&◌, ◌||◌}
use mathlib.Core.List.{List, [], ◌∷◌}
use Rattle.std.specs.List.{list_all, list_any}
use Rattle.lists.specs.Tests.{all, any}

module _ {A : Type 0} (test : A → Bool) where
  pub all-std : (l : List A) → list_all test l ≡ all test l
  unfolding all
  all-std [] = refl
  all-std (x ∷ l) = ap (λ (b : Bool). test x && b) (all-std l)

  pub any-std : (l : List A) → list_any test l ≡ any test l
  unfolding any
  any-std [] = refl
  any-std (x ∷ l) = ap (λ (b : Bool). test x || b) (any-std l)
