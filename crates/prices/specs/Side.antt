-- Sides. Document 01 words each rule "for a buy with limit L; a sell is the mirror image": these words are said here once for both.
-- A side is a Bool, as the side bit of a message: false buys, true sells.
-- Assumes nothing.
use Rattle.std.specs.Prelude.{ℕ, ◌≤◌, ◌<◌, min, max, Bool, true, false, cond, eqb, leb}
use Rattle.prices.specs.declared.Market.{Market}

-- of two prices the higher (sell: the lower), which is the more aggressive
unfoldable pub keen : Bool → ℕ → ℕ → ℕ
keen false p q = max p q
keen true p q = min p q

-- of two prices the lesser (sell: the higher)
unfoldable pub meek : Bool → ℕ → ℕ → ℕ
meek false p q = min p q
meek true p q = max p q

-- p is x or more (sell: x or less): a buy with limit p may trade at x
unfoldable pub reaches : Bool → ℕ → ℕ → Bool
reaches false p x = leb x p
reaches true p x = leb p x

-- the same as a claim, p is no less aggressive than x: to a buy no lower, to a sell no higher; and p is short of x: to a buy lower, to a sell higher
abbrev pub Aggressive : Bool → ℕ → ℕ → Type 0
Aggressive false p x = x ≤ p
Aggressive true p x = p ≤ x

abbrev pub Short : Bool → ℕ → ℕ → Type 0
Short false p x = p < x
Short true p x = x < p

-- of two prices that may be missing, the lower (sell: the higher), as in "NBO is the lower of A and the lowest displayed sell price .., NBB its mirror";
-- "An away bid, away offer or underlying price of 0 means none"
unfoldable pub nearer : Bool → ℕ → ℕ → ℕ
nearer s p q = cond (eqb p 0) q (cond (eqb q 0) p (meek s p q))

-- "A is the away offer"; for a sell, the away bid
abbrev pub away : Market → Bool → ℕ
away k false = k.offer
away k true = k.bid
