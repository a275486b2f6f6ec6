-- A TEST OF ARRIVAL, as a row of a table: its number, whether it is put to the entry at all (posed), the two figures that it compares, and when it holds of
-- them. The first figure is the entry's own, the second what it is held against.
-- Assumes nothing.
use Rattle.std.specs.Prelude.{ℕ, Bool, cond, not, ◌&&◌, List, [], ◌∷◌, eqb, leb, ltb}
use Rattle.lists.specs.Tests.{first_holding}
use Rattle.prices.specs.declared.Figures.{Figures}
use Rattle.prices.specs.Side.{reaches}

pub data Comparison : Type 0 where
  -- the first is the second or more
  at_least : Comparison
  -- the first is more than the second
  above : Comparison
  -- buy: the first is the second or more; sell: the second or less
  reaching : Comparison
  -- buy: the first is less than the second; sell: more
  short : Comparison

abbrev pub compared : Comparison → Bool → Figures → Bool
compared at_least s f = leb f.second f.first
compared above s f = ltb f.second f.first
compared reaching s f = reaches s f.first f.second
compared short s f = not (reaches s f.first f.second)

pub record Test : Type 0 where
  pub rule : ℕ
  pub posed : Bool
  pub figures : Figures
  pub when : Comparison

-- it is put to an entry on side s, and holds
abbrev pub holds : Bool → Test → Bool
holds s x = x.posed && compared x.when s x.figures

-- tests that are put only where q is so
abbrev pub only_for : Bool → List Test → List Test
only_for q [] = []
only_for q (x ∷ xs) = record { rule = x.rule; posed = q && x.posed; figures = x.figures; when = x.when } ∷ only_for q xs

-- what each answers
abbrev pub answers : Bool → List Test → List (ℕ × Bool)
answers s [] = []
answers s (x ∷ xs) = (x.rule, holds s x) ∷ answers s xs

-- THE REASON: the number of the "first that applies", 0 where none does
abbrev pub reason_of : Bool → List Test → ℕ
reason_of s xs = first_holding (answers s xs)

-- THE TWO FIGURES OF A RULE, as its test compares them; two zeros for a number that no test has
unfoldable pub figures_of : ℕ → List Test → Figures
figures_of n [] = record { first = 0; second = 0 }
figures_of n (x ∷ xs) = cond (eqb n x.rule) x.figures (figures_of n xs)
