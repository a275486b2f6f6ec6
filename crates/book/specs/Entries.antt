-- One entry: what it shows, and what it is.
-- Assumes nothing.
use Rattle.std.specs.Prelude.{ℕ, ◌-◌, Bool, not, ◌&&◌, eqb}
use Rattle.std.specs.Bool.{beq}
use Rattle.kinds.specs.Kinds.{quotes}
use Rattle.prices.specs.declared.Interest.{Interest}
use Rattle.prices.specs.declared.Prices.{Prices}
use Rattle.book.specs.declared.Entry.{Entry}
use Rattle.book.specs.declared.Pricing.{Pricing}
use Rattle.book.specs.declared.Pricing.TheVariants.{Fixed, Dark, Sliding}

-- "Entry numbers run 1 to 1,000,000"
abbrev pub last_number : ℕ
last_number = 1000000

-- what it asks, as the price rules have it
abbrev pub interest_of : Entry → Interest
interest_of e = record { kind = e.kind; sell = e.sell; limit = e.limit }

-- the display price; "a report shows display 0 for a dark entry"
abbrev pub shown_as : ℕ → Pricing → ℕ
shown_as limit Fixed = limit
shown_as limit Dark = 0
shown_as limit (Sliding d) = d

-- how an entry is priced, by number: 0 fixed, 1 dark, 2 sliding
abbrev pub pricing_number : Pricing → ℕ
pricing_number Fixed = 0
pricing_number Dark = 1
pricing_number (Sliding d) = 2

abbrev pub display : Entry → ℕ
display e = shown_as e.limit e.pricing

-- "An entry is displayed interest if display equals working price."
abbrev pub displayed : Entry → Bool
displayed e = eqb (display e) e.working

abbrev pub quote : Entry → Bool
quote e = quotes e.kind

-- an entry on the side that a taker of side s trades with
abbrev pub against : Bool → Entry → Bool
against s e = beq e.sell (not s)

-- "cancel own entry", "cancel own quote": what a message names
abbrev pub own_entry : ℕ → ℕ → Entry → Bool
own_entry party number e = eqb e.number number && eqb e.party party

abbrev pub quote_of : ℕ → Bool → Entry → Bool
quote_of party s e = quote e && (eqb e.party party && beq e.sell s)

-- the entry with another quantity, all else as it was
abbrev pub with_quantity : ℕ → Entry → Entry
with_quantity q e = record {
  number = e.number;
  party = e.party;
  kind = e.kind;
  sell = e.sell;
  limit = e.limit;
  quantity = q;
  working = e.working;
  pricing = e.pricing;
}

-- the entry at another working price, and priced otherwise
abbrev pub with_prices : ℕ → Pricing → Entry → Entry
with_prices w p e = record {
  number = e.number;
  party = e.party;
  kind = e.kind;
  sell = e.sell;
  limit = e.limit;
  quantity = e.quantity;
  working = w;
  pricing = p;
}

-- with q contracts less, and at other prices, one of them shown
abbrev pub lessened : ℕ → Entry → Entry
lessened q e = with_quantity (e.quantity - q) e

abbrev pub priced : Prices → Entry → Entry
priced p e = with_prices p.working (Sliding p.display) e
