-- Settling: what document 01's "Settling" says, on the list of entries in rank order.
-- Assumes nothing.
use Rattle.std.specs.Prelude.{ℕ, zero, suc, ◌+◌, min, Bool, true, false, List, length}
use Rattle.prices.specs.declared.Prices.{Prices}
use Rattle.prices.specs.declared.Market.{Market}
use Rattle.prices.specs.Side.{away}
use Rattle.prices.specs.Aims.{aims}
use Rattle.prices.specs.Rest.{marketable, resting_prices, stirs_at}
use Rattle.prices.specs.Ease.{eased_to, eases}
use Rattle.lists.specs.Places.{requeue}
use Rattle.lists.specs.Tests.{any, count}
use Rattle.lists.specs.Choose.{Found, nowhere, found}
use Rattle.lists.specs.Run.{Step, stop, go, Ran, ran, and_then}
use Rattle.packing.specs.declared.report.Report.{Report}
use Rattle.book.specs.declared.Entry.{Entry}
use Rattle.book.specs.declared.Pricing.{Pricing}
use Rattle.book.specs.declared.Pricing.TheVariants.{Fixed, Dark, Sliding}
use Rattle.book.specs.Entries.{display, priced}
use Rattle.book.specs.Change.{hit_both}
use Rattle.book.specs.Look.{best_contra, contra, lowest}
use Rattle.telling.specs.Tell.{traded, repriced}

-- ---- easing: "in entry order, each sliding buy working above A drops to the higher of its display and A (a sell the mirror image, both sides in one
-- entry order)" ----

abbrev pub eases_as : Market → Entry → Pricing → Bool
eases_as k e Fixed = false
eases_as k e Dark = false
eases_as k e (Sliding d) = eases e.sell (away k e.sell) d e.working

abbrev pub easing : Market → Entry → Bool
easing k e = eases_as k e e.pricing

abbrev pub eased_prices : Market → Entry → Prices
eased_prices k e = record { display = display e; working = eased_to e.sell (away k e.sell) (display e) e.working }

-- a change of price: the entry goes last in rank ("every change of either price"), and is reported. "An easing that changes a price, a trade and a move are one
-- step each.": here, and in `trade_at`
abbrev pub reprice : ℕ → Prices → Entry → List Entry → Step (List Entry) Report
reprice i p e l = go (repriced (priced p e)) (requeue i (priced p e) l)

abbrev pub ease_at : Market → List Entry → Found Entry → Step (List Entry) Report
ease_at k l nowhere = stop
ease_at k l (found i e) = reprice i (eased_prices k e) e l

-- the next easing. An eased entry is not eased again, so that "in entry order, each" is: the first by entry number, until there is none
unfoldable pub next_ease : Market → List Entry → Step (List Entry) Report
next_ease k l = ease_at k l (lowest (easing k) l)

-- ---- "Then repeat: take the first sliding entry by entry number that is marketable (MMRP) or not at its resting prices." ----

-- an entry's aims, before these away prices and in this book
abbrev pub aims_in : Market → List Entry → Entry → Prices
aims_in k l e = aims k.m e.kind e.sell e.limit (away k e.sell) (contra e.sell l)

-- an entry stirs: it slides, and "is marketable (MMRP) or not at its resting prices"
abbrev pub stirring_as : Market → ℕ → Entry → Pricing → Bool
stirring_as k c e Fixed = false
stirring_as k c e Dark = false
stirring_as k c e (Sliding d) = stirs_at k.m e.kind e.sell e.limit (away k e.sell) c d e.working

abbrev pub stirring : Market → List Entry → Entry → Bool
stirring k l e = stirring_as k (contra e.sell l) e e.pricing

-- "If marketable, it trades as taker with the one best contra entry;"
abbrev pub trade_at : List Entry → ℕ → Entry → Found Entry → Step (List Entry) Report
trade_at l i e nowhere = stop
trade_at l i e (found j y) = go (traded e y (min e.quantity y.quantity)) (hit_both i j (min e.quantity y.quantity) l)

-- "else it moves to its resting prices."
abbrev pub trade_or_move : Market → List Entry → ℕ → Entry → Bool → Step (List Entry) Report
trade_or_move k l i e true = trade_at l i e (best_contra e.sell false l)
trade_or_move k l i e false = reprice i (resting_prices e.sell (display e) (aims_in k l e)) e l

abbrev pub stir_at : Market → List Entry → Found Entry → Step (List Entry) Report
stir_at k l nowhere = stop
stir_at k l (found i e) = trade_or_move k l i e (marketable e.kind e.sell (contra e.sell l) (aims_in k l e))

-- "Stop when there is none."
unfoldable pub next_stir : Market → List Entry → Step (List Entry) Report
next_stir k l = stir_at k l (lowest (stirring k l) l)

-- ---- both, to the end ----

-- what falls with each easing, and with each trade and move: entries that are to do something, and with a trade the entries themselves
unfoldable pub easings : Market → List Entry → ℕ
easings k l = count (easing k) l

abbrev pub triangle : ℕ → ℕ
triangle zero = 0
triangle (suc n) = suc n + triangle n

unfoldable pub stirrings : Market → List Entry → ℕ
stirrings k l = count (stirring k l) l + triangle (length l)

unfoldable pub eased : Market → List Entry → Ran (List Entry) Report
eased k l = ran (next_ease k) (easings k) l

unfoldable pub stirred : Market → List Entry → Ran (List Entry) Report
stirred k l = ran (next_stir k) (stirrings k) l

-- THE BOOK SETTLED, and its reports: "First easing: .. Then repeat: .."
unfoldable pub settled : Market → List Entry → Ran (List Entry) Report
settled k l = and_then (eased k l) (stirred k)

-- whether there is anything to settle at all: an entry that is to be eased is not at its resting prices either (proofs/Quiet)
unfoldable pub any_stirs : Market → List Entry → Bool
any_stirs k l = any (stirring k l) l
