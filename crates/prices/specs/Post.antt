-- "What is left posts, unless, first that applies": 20, 21, 23, 22, a row of the table for each.
-- Assumes nothing.
use Rattle.std.specs.Prelude.{ℕ, Bool, not, ◌&&◌, List, [], ◌∷◌, eqb}
use Rattle.prices.specs.Step.{last_price, apart}
use Rattle.prices.specs.Test.{Test, reaching, short, above, reason_of}
use Rattle.kinds.specs.Kinds.{sliding, light}

-- "20, not MMALO or MMRP and L is A or more"; where there is no A there is no test
abbrev pub test20 : ℕ → ℕ → ℕ → Test
test20 kind l a = record { rule = 20; posed = not (sliding kind) && not (eqb a 0); figures = record { first = l; second = a }; when = reaching }

-- "21, MMLO and an undisplayed sell works at L or less": h is the best price at which one works, 0 for none
abbrev pub test21 : ℕ → ℕ → ℕ → Test
test21 kind l h = record { rule = 21; posed = light kind && not (eqb h 0); figures = record { first = l; second = h }; when = reaching }

-- "23, a sliding kind's display would be below M (sell: above 100,000)", M being the small step
abbrev pub test23 : ℕ → ℕ → Bool → ℕ → Test
test23 m kind s d = record { rule = 23; posed = sliding kind; figures = record { first = d; second = last_price m s }; when = short }

-- "22, a sliding kind's L minus display (sell: display minus L) exceeds K times M", both in steps: "K counts steps across the change"
abbrev pub test22 : ℕ → ℕ → ℕ → Bool → ℕ → ℕ → Test
test22 m k kind s l d = record { rule = 22; posed = sliding kind; figures = record { first = apart m s l d; second = k }; when = above }

-- the tests put to what is left of an entry with limit l and away price a, where h is the best undisplayed contra price and d the display it would rest at
abbrev pub stops : ℕ → ℕ → ℕ → Bool → ℕ → ℕ → ℕ → ℕ → List Test
stops m k kind s l a h d = test20 kind l a ∷ test21 kind l h ∷ test23 m kind s d ∷ test22 m k kind s l d ∷ []

-- why it may not rest; 0 if it may
unfoldable pub stopped : ℕ → ℕ → ℕ → Bool → ℕ → ℕ → ℕ → ℕ → ℕ
stopped m k kind s l a h d = reason_of s (stops m k kind s l a h d)
