-- The series' numbers: how high the underlying price may be, and what the rules read off them.
-- Assumes nothing.
use Rattle.std.specs.Prelude.{ℕ}
use Rattle.prices.specs.declared.Market.{Market}
use Rattle.prices.specs.declared.Guard.{Guard}
use Rattle.terms.specs.declared.Terms.{Terms}

-- "underlying price, 0 to 100,000, any cent"
abbrev pub top_underlying : ℕ
top_underlying = 100000

abbrev pub market_of : Terms → Market
market_of t = record { m = t.m; bid = t.bid; offer = t.offer }

abbrev pub guard_of : Terms → Guard
guard_of t = record { put = t.put; exempt = t.exempt; strike = t.strike; underlying = t.underlying }
