-- A list told place by place, as code that names each place of an array has it.
-- Assumes nothing.
use Prim.Native.Nat.{ℕ, zero, suc, ◌+◌}
use mathlib.Core.Path.{◌≡◌, refl, sym, ap, ◌∙◌}
use mathlib.Core.List.{List, [], ◌∷◌, map}
use lib.ListN.{length, get_or, drop}
use lib.Seq.{get_or-drop}

module _ {A : Type 0} where
  -- f of each of the places 0 to n - 1
  abbrev pub places : ℕ → (ℕ → A) → List A
  places zero f = []
  places (suc n) f = f 0 ∷ places n (λ (i : ℕ). f (suc i))

module _ {A B : Type 0} (f : A → B) (d : A) where
  all-places : (l : List A) → places (length l) (λ (i : ℕ). f (get_or l i d)) ≡ map f l
  all-places [] = refl
  all-places (x ∷ l) = ap (λ (m : List B). f x ∷ m) (all-places l)

  pub told : (n : ℕ) (l : List A) → length l ≡ n → places n (λ (i : ℕ). f (get_or l i d)) ≡ map f l
  told n l h = rw (← h) (all-places l)

  -- the places from k on
  pub told-after : (k n : ℕ) (l : List A) → length (drop k l) ≡ n → places n (λ (i : ℕ). f (get_or l (k + i) d)) ≡ map f (drop k l)
  told-after k n l h = sym (ap (places n) (λ j (i : ℕ). f (get_or-drop k l i d j))) ∙ told n (drop k l) h
