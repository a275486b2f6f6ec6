-- "It never trades above A (a sell never below the away bid)", as a fact about a report: what is proved of every trade, on arrival (crate arrival, Within)
-- and in settling (crate settling_theory, Within).
-- Assumes nothing.
use Prim.Native.Nat.{ℕ, ◌≤◌}
use mathlib.Core.Path.{◌≡◌}
use mathlib.Core.Bool.{Bool, true, false}
use native.Mathlib.Omega.{arith}
use lib.Dec.{eqb}
use Rattle.prices.specs.declared.Market.{Market}
use Rattle.prices.specs.Side.{reaches, away}
use Rattle.prices.proofs.FrameLaws.{seen, reached}
use Rattle.prices.proofs.AimLaws.{faced}
use Rattle.packing.specs.declared.report.Report.{Report}
use Rattle.packing.specs.declared.report.Report.TheVariants.{Noted, Rejected, Traded, Rested, Repriced, Cancelled}
use Rattle.soundness_theory.proofs.MarketFacts.{MarketFacts}

-- a price within the away price of a side: a buy's at A or below, a sell's at the away bid or above; "A missing A or C does not bind."
abbrev pub WithinAway : Market → Bool → ℕ → Type 0
WithinAway k s p = eqb (away k s) 0 ≡ false → reaches s (away k s) p ≡ true

-- where a report is of a trade, its price is so, for the side of the taker
abbrev pub TradesWithin : Market → Report → Type 0
TradesWithin k Noted = Unit {0}
TradesWithin k (Rejected why s party number limit quantity) = Unit {0}
TradesWithin k (Traded s party number other price quantity) = WithinAway k s price
TradesWithin k (Rested s party number display working quantity) = Unit {0}
TradesWithin k (Repriced s party number display working quantity) = Unit {0}
TradesWithin k (Cancelled why s party number limit quantity) = Unit {0}

-- a price that is no further than one within the away price
pub within-away : {k : Market} → MarketFacts k → (s : Bool) (p : ℕ) → p ≤ 200000 → seen s p ≤ faced s (away k s) → WithinAway k s p
unfolding faced
within-away {k} mk s p low h e =
    let g : seen s p ≤ seen s (away k s) = rw e at h in
    reached s (away k s) p (omega (arith, ((mk.legal s).legal e).high)) low g
