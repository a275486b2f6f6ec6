-- Price protection, which "comes first, for quotes only, in the order here": 25, 26, 24, a row of the table for each.
-- Assumes nothing.
use Rattle.std.specs.Prelude.{ℕ, ◌+◌, ◌-◌, ◌*◌, ◌≤◌, Bool, true, false, cond, not, ◌&&◌, List, [], ◌∷◌, eqb, leb, ltb}
use Rattle.prices.specs.declared.Figures.{Figures}
use Rattle.prices.specs.declared.Guard.{Guard}
use Rattle.prices.specs.Step.{top_price}
use Rattle.prices.specs.Test.{Test, at_least, reason_of}

-- what a caller has seen to: both prices are within the legal range, or none
pub record Cents (b l : ℕ) : Type 0 where
  pub best : b ≤ top_price
  pub limit : l ≤ top_price

-- "25: call, not exempt, underlying known, bid at or above it."
abbrev pub test25 : Guard → Bool → ℕ → Test
test25 g s bid = record {
  rule = 25;
  posed = not s && (not g.put && (not g.exempt && not (eqb g.underlying 0)));
  figures = record { first = bid; second = g.underlying };
  when = at_least;
}

-- "26: put, not exempt, bid at or above strike."
abbrev pub test26 : Guard → Bool → ℕ → Test
test26 g s bid =
    record { rule = 26; posed = not s && (g.put && not g.exempt); figures = record { first = bid; second = g.strike }; when = at_least }

-- "24: bid, NBO at most 100: bid at least NBO+100. NBO above 100: twice (bid-NBO) at least NBO.
-- Offer, NBB above 100: twice (NBB-offer) at least NBB; NBB at most 100, no limit. No NBO/NBB, no test."
unfoldable pub figures24 : Bool → ℕ → ℕ → Figures
figures24 false nbo bid = cond (leb nbo 100) (record { first = bid; second = nbo + 100 }) (record { first = 2 * (bid - nbo); second = nbo })
figures24 true nbb offer = record { first = 2 * (nbb - offer); second = nbb }

-- there is a price to test against, and a limit goes with it
unfoldable pub limited24 : Bool → ℕ → Bool
limited24 false nbo = not (eqb nbo 0)
limited24 true nbb = ltb 100 nbb

abbrev pub test24 : Bool → ℕ → ℕ → Test
test24 s best limit = record { rule = 24; posed = limited24 s best; figures = figures24 s best limit; when = at_least }

-- the tests put to a quote on side s with this limit, where `best` is NBO for a bid and NBB for an offer
abbrev pub bars : Guard → Bool → ℕ → ℕ → List Test
bars g s best limit = test25 g s limit ∷ test26 g s limit ∷ test24 s best limit ∷ []

-- why it is rejected; 0 if none of them applies
unfoldable pub protection : Guard → Bool → ℕ → ℕ → ℕ
protection g s best limit = reason_of s (bars g s best limit)
