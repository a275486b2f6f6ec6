-- Words for contracts; no rule stands here.
-- Assumes nothing.
use Rattle.std.specs.Prelude.{ℕ, ◌≤◌, ◌<◌, ◌≡◌, List, length, take}
use Rattle.book.specs.declared.Book.{Book}
use Rattle.book.specs.declared.Entry.{Entry}
use Rattle.book.specs.Shape.{entries_of}

-- n entries rest in a book: as many as it says, or as there are places
pub record Resting (b : Book) (n : ℕ) : Type 0 where
  pub few : n ≤ 64
  pub places : n ≤ length b.entries
  pub are : take n b.entries ≡ entries_of b

-- i is the rank of one of all that rest
pub record RestsAt (all : List Entry) (i : ℕ) : Type 0 where
  pub few : length all ≤ 64
  pub inside : i < length all
