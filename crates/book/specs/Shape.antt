-- The book as the list of its entries in rank order, and the one book that holds a list: "equal entries in equal rank order are the same book".
-- Assumes nothing.
use Rattle.std.specs.Prelude.{ℕ, ◌-◌, ◌≤◌, ◌<◌, ◌≡◌, false, List, ◌++◌, length, take, drop, replicate}
use Rattle.book.specs.declared.Entry.{Entry}
use Rattle.book.specs.declared.Book.{Book}
use Rattle.book.specs.declared.Pricing.TheVariants.{Fixed}

-- "unused places are zero"
abbrev pub zero_entry : Entry
zero_entry = record { number = 0; party = 0; kind = 0; sell = false; limit = 0; quantity = 0; working = 0; pricing = Fixed }

-- the entries that rest, in rank order
unfoldable pub entries_of : Book → List Entry
entries_of b = take b.count b.entries

-- the book that holds a list
unfoldable pub book_of : List Entry → Book
book_of l = record { entries = l ++ replicate (64 - length l) zero_entry; count = length l }

-- "At most 64 resting entries", and nothing in the unused places
pub record WellFormed (b : Book) : Type 0 where
  pub few : b.count ≤ 64
  pub places : length b.entries ≡ 64
  pub unused : drop b.count b.entries ≡ replicate (64 - b.count) zero_entry

-- what the operations ask of their callers: a free place; a place in use; two of them
pub record Space (b : Book) : Type 0 where
  pub well : WellFormed b
  pub space : b.count < 64

pub record Place (b : Book) (i : ℕ) : Type 0 where
  pub well : WellFormed b
  pub inside : i < b.count

pub record TwoPlaces (b : Book) (i j : ℕ) : Type 0 where
  pub well : WellFormed b
  pub one : i < b.count
  pub two : j < b.count
  pub apart : i ≡ j → ⊥
