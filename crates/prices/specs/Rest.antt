-- Resting quotes that slide: where they belong, and which have something to do.
-- Assumes nothing.
use Rattle.std.specs.Prelude.{ℕ, Bool, not, ◌&&◌, ◌||◌, eqb}
use Rattle.prices.specs.declared.Prices.{Prices}
use Rattle.prices.specs.Side.{keen, reaches}
use Rattle.prices.specs.Step.{legal, back}
use Rattle.kinds.specs.Kinds.{minds}
use Rattle.prices.specs.Aims.{aims}

-- "It is marketable when its working aim is C or more." Asked of kinds that slide: of these MMRP alone; a missing C is reached by nobody
unfoldable pub marketable : ℕ → Bool → ℕ → Prices → Bool
marketable kind s c aim = not (minds kind) && (not (eqb c 0) && reaches s aim.working c)

-- "Resting, its display becomes the higher of its display and the aim; its working price the higher of that new display and the working aim."
-- "An away offer that falls onto the display leaves it there (003, RPNP Example 4; ..)": the aim is then lower, and the display the higher of the two
unfoldable pub resting_prices : Bool → ℕ → Prices → Prices
resting_prices s d aim = record { display = keen s d aim.display; working = keen s (keen s d aim.display) aim.working }

-- "at its resting prices"
unfoldable pub at_rest : Bool → ℕ → ℕ → Prices → Bool
at_rest s d w aim = eqb d (resting_prices s d aim).display && eqb w (resting_prices s d aim).working

-- "marketable (MMRP) or not at its resting prices": what settling looks for, of a quote with display d and working price w
unfoldable pub stirs_at : ℕ → ℕ → Bool → ℕ → ℕ → ℕ → ℕ → ℕ → Bool
stirs_at m kind s l a c d w = marketable kind s c (aims m kind s l a c) || not (at_rest s d w (aims m kind s l a c))

-- "display .. [is] legal, working is no less aggressive than display, by at most M": by at most one step
abbrev pub shown_near : ℕ → Bool → ℕ → ℕ → Bool
shown_near m s d w = legal m d && (reaches s w d && reaches s d (back m s w))

-- "for MMALO and MMRP, display and working price are legal, working is no less aggressive than display, by at most M [one step], and not beyond the limit"
unfoldable pub slides : ℕ → Bool → ℕ → ℕ → ℕ → Bool
slides m s l d w =
    legal m d && (legal m w && (reaches s w d && (reaches s d (back m s w) && reaches s l w)))
