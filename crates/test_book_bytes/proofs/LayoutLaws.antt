-- A book that is read from its bytes, entry by entry.
-- Assumes nothing.
use Prim.Native.Nat.{ℕ, ◌+◌, ◌*◌, ◌≤◌, ◌<◌}
use mathlib.Core.Path.{◌≡◌, ap}
use mathlib.Core.List.{List, []}
use lib.ListN.{length, set}
use Rattle.test_reading.specs.Number.{number_at}
use Rattle.test_reading.proofs.RowLaws.{Filled, filled_none, filled_more, filled-all}
use Rattle.book.specs.declared.Entry.{Entry}
use Rattle.book.specs.declared.Book.{Book}
use Rattle.book.specs.Shape.{zero_entry, book_of}
use Rattle.test_book_bytes.specs.Layout.{entry_at, book_in}

module _ (l : List ℕ) where
  -- the count and the first i entries have been read
  pub record Read (b : Book) (i : ℕ) : Type 0 where
    pub count : b.count ≡ number_at l 0
    pub entries : Filled zero_entry (λ (k : ℕ). entry_at l (4 + 24 * k)) 64 b.entries i

  pub read_none : (b : Book) (n : ℕ) → b ≡ book_of [] → n ≡ number_at l 0 → Read (record { entries = b.entries; count = n }) 0
  unfolding book_of
  read_none b n e f = record { count = f; entries = filled_none zero_entry (λ (k : ℕ). entry_at l (4 + 24 * k)) (ap (λ (x : Book). length x.entries) e) }

  pub read_more : (b : Book) (i : ℕ) (e : Entry) → Read b i → i < 64 → e ≡ entry_at l (4 + 24 * i)
      → Read (record { entries = set b.entries i e; count = b.count }) (i + 1)
  read_more b i e f h same = record { count = f.count; entries = filled_more zero_entry (λ (k : ℕ). entry_at l (4 + 24 * k)) f.entries h same }

  pub read_all : (b : Book) (i : ℕ) → Read b i → 64 ≤ i → b ≡ book_in l
  read_all b i f h = λ j. record { entries = filled-all zero_entry (λ (k : ℕ). entry_at l (4 + 24 * k)) f.entries h j; count = f.count j }
