-- Things that lie in a row.
-- Assumes nothing.
use Rattle.std.specs.Prelude.{ℕ, zero, suc, ◌+◌, List, [], ◌∷◌}

module _ {A : Type 0} where
  -- n things, the one numbered k first
  unfoldable pub row_from : (ℕ → A) → ℕ → ℕ → List A
  row_from thing k zero = []
  row_from thing k (suc n) = thing k ∷ row_from thing (k + 1) n

  -- n things, from number 0 on
  abbrev pub row : (ℕ → A) → ℕ → List A
  row thing n = row_from thing 0 n
