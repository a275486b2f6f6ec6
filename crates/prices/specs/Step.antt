-- THE GRID: which prices are legal, what one step is, and how many steps lie between two prices. No rule outside this file and no law but its own
-- (proofs/GridLaws, CountLaws, StepLaws) knows how long a step is. What a sound price is stands once more, in plain words, in crate soundness
-- (specs/SoundBook); that it is the same, its proofs/DecideLaws say.
-- Assumes nothing.
use Rattle.std.specs.Prelude.{ℕ, ◌+◌, ◌-◌, ◌/◌, ◌%◌, min, Bool, true, false, cond, ◌&&◌, ◌||◌, eqb, leb, ltb}

-- "Under 3.00 a series moves by the small step and from 3.00 up by the large one"
pub record Steps : Type 0 where
  pub small : ℕ
  pub large : ℕ

abbrev pub change : ℕ
change = 300

-- "1 and 5 name the pairs": "1 and 5 cents, or 5 and 10"
unfoldable pub mpv : ℕ → Bool
mpv m = eqb m 1 || eqb m 5

abbrev pub steps_of : ℕ → Steps
steps_of m = record { small = m; large = cond (eqb m 1) 5 10 }

-- ---- for any pair of steps ----

-- below 300 multiples of the small step, from 300 on multiples of the large one
unfoldable pub on_grid : Steps → ℕ → Bool
on_grid g p = cond (ltb p change) (eqb (p % g.small) 0) (eqb (p % g.large) 0)

-- one step up, one step down: "One step below 300 is 299 or 295; one step above is 305 or 310."
unfoldable pub up : Steps → ℕ → ℕ
up g p = p + cond (ltb p change) g.small g.large

unfoldable pub down : Steps → ℕ → ℕ
down g p = p - cond (leb p change) g.small g.large

-- how many steps lead from 0 up to p: small ones as far as 300, large ones from there
unfoldable pub rung : Steps → ℕ → ℕ
rung g p = min p change / g.small + (p - change) / g.large

-- ---- for the pair that M names ----

-- "Prices are cents, from M to 100,000" and on the grid
abbrev pub top_price : ℕ
top_price = 100000

unfoldable pub legal : ℕ → ℕ → Bool
legal m p = leb m p && (leb p top_price && on_grid (steps_of m) p)

-- a price that may be missing: none, or a legal one
unfoldable pub none_or_legal : ℕ → ℕ → Bool
none_or_legal m p = eqb p 0 || legal m p

-- one step back: "Every 'minus M' becomes one step", down for a buy's price, up for a sell's. "An aim may fall one M [one step] outside the
-- legal prices."
unfoldable pub back : ℕ → Bool → ℕ → ℕ
back m false p = down (steps_of m) p
back m true p = up (steps_of m) p

-- the end of the legal prices that a side slides back to: "below M (sell: above 100,000)" is past it, M being the small step
unfoldable pub last_price : ℕ → Bool → ℕ
last_price m false = m
last_price m true = top_price

-- "K counts steps across the change": how many the display d stands back from the limit l
unfoldable pub apart : ℕ → Bool → ℕ → ℕ → ℕ
apart m false l d = rung (steps_of m) l - rung (steps_of m) d
apart m true l d = rung (steps_of m) d - rung (steps_of m) l
