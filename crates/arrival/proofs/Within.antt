-- "It never trades above A (a sell never below the away bid)", for trades on arrival. Of settling: crate settling_theory, Within; of a whole message:
-- handler, ForTheClass.
-- Assumes nothing.
use Prim.Native.Nat.{ℕ, min, max}
use mathlib.Core.Path.{◌≡◌}
use mathlib.Core.Bool.{Bool, true, false}
use mathlib.Core.List.{List}
use native.Mathlib.Omega.{arith}
use borrow.Author.Tests.{leb-true, le-leb}
use Rattle.prices.specs.declared.Market.{Market}
use Rattle.prices.specs.Side.{meek, reaches, away}
use Rattle.prices.specs.Aims.{up_to}
use Rattle.lists.specs.Tests.{All}
use Rattle.book.specs.declared.Entry.{Entry}
use Rattle.telling.proofs.Within.{WithinAway, TradesWithin}
use Rattle.terms.specs.declared.Terms.{Terms}
use Rattle.terms.specs.Terms.{market_of}
use Rattle.arrival.specs.Take.{bound}
use Rattle.arrival.specs.Arrive.{arrived}
use Rattle.arrival.proofs.ArriveTells.{arrived-says}

-- what the less aggressive of two prices reaches, the second does
reaches-second : (s : Bool) (p x y : ℕ) → reaches s (meek s p x) y ≡ true → reaches s x y ≡ true
unfolding reaches meek
reaches-second false p x y h = le-leb y x (omega (arith, leb-true y (min p x) h))
reaches-second true p x y h = le-leb x y (omega (arith, leb-true (max p x) y h))

bound-within : (k : Market) (e : Entry) (y : ℕ) → reaches e.sell (bound k e) y ≡ true → WithinAway k e.sell y
unfolding up_to
bound-within k e y h z = reaches-second e.sell e.limit (away k e.sell) y (rw z at h)

-- NO TRADE OF AN ARRIVAL IS BEYOND ITS AWAY PRICE
pub arrival-within-away : (t : Terms) (e : Entry) (l : List Entry) → All (TradesWithin (market_of t)) (arrived t e l).records
arrival-within-away t e l =
    arrived-says t e l (TradesWithin (market_of t)) (record {
      rejects = λ p why. tt;
      cancels = λ p why s x o. tt;
      trades = λ mi y n w. bound-within (market_of t) e y.working w;
      rests = λ left h. tt;
      stops = λ why left. tt;
    })
