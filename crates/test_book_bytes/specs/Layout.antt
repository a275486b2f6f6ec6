-- A book in bytes, as the test programs' tables have it.
-- Assumes nothing.
use Rattle.std.specs.Prelude.{ℕ, ◌+◌, ◌*◌, cond, List, eqb}
use Rattle.test_reading.specs.Number.{byte_at, number_at}
use Rattle.test_reading.specs.Row.{row}
use Rattle.book.specs.declared.Entry.{Entry}
use Rattle.book.specs.declared.Book.{Book}
use Rattle.book.specs.declared.Pricing.{Pricing}
use Rattle.book.specs.declared.Pricing.TheVariants.{Fixed, Dark, Sliding}

-- 0 fixed, 1 dark, else sliding
abbrev pub pricing_read : ℕ → ℕ → Pricing
pricing_read sort display = cond (eqb sort 0) Fixed (cond (eqb sort 1) Dark (Sliding display))

-- the entry at a place: number, limit, quantity, working price and display, then party, kind, side (1 sells) and pricing
abbrev pub entry_at : List ℕ → ℕ → Entry
entry_at l at = record {
  number = number_at l at;
  party = byte_at l (at + 20);
  kind = byte_at l (at + 21);
  sell = eqb (byte_at l (at + 22)) 1;
  limit = number_at l (at + 4);
  quantity = number_at l (at + 8);
  working = number_at l (at + 12);
  pricing = pricing_read (byte_at l (at + 23)) (number_at l (at + 16));
}

-- the count, and 64 entries of 24 bytes
abbrev pub book_in : List ℕ → Book
book_in l = record { entries = row (λ (k : ℕ). entry_at l (4 + 24 * k)) 64; count = number_at l 0 }
