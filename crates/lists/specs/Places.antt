-- Places of a list.
-- Assumes nothing.
use Rattle.std.specs.Prelude.{ℕ, zero, suc, ◌≡◌, List, [], ◌∷◌, ◌++◌}

module _ {A : Type 0} where
  -- x stands at place i
  abbrev pub At : List A → ℕ → A → Type 0
  At [] i x = ⊥
  At (y ∷ l) zero x = y ≡ x
  At (y ∷ l) (suc i) x = At l i x

  -- the list without what stands at place i; the others keep their order
  unfoldable pub without : ℕ → List A → List A
  without i [] = []
  without zero (x ∷ l) = l
  without (suc i) (x ∷ l) = x ∷ without i l

  -- what stood at place i gives way to x, which stands last
  abbrev pub requeue : ℕ → A → List A → List A
  requeue i x l = without i l ++ (x ∷ [])
