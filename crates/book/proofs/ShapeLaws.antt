-- Laws of the book's shape: a well-formed book and the list of its entries determine each other.
-- Assumes nothing.
use Prim.Native.Nat.{ℕ, ◌-◌, ◌≤◌, ◌<◌}
use mathlib.Core.Path.{◌≡◌, refl, sym, ap, ◌∙◌}
use mathlib.Core.List.{List}
use native.Mathlib.Omega.{arith}
use lib.ListN.{length, take, get_or, replicate, length-append, length-replicate, take-append-drop}
use lib.Seq.{length-take-le, take-append_seam, drop-append_seam, get_or-take}
use Rattle.book.specs.declared.Entry.{Entry}
use Rattle.book.specs.declared.Book.{Book}
use Rattle.book.specs.Shape.{zero_entry, entries_of, book_of, WellFormed}

-- two books with the same fields are the same book
pub same-book : {es fs : List Entry} {n m : ℕ} → es ≡ fs → n ≡ m
    → ◌≡◌ {A = Book} (record { entries = es; count = n }) (record { entries = fs; count = m })
same-book p q = λ i. record { entries = p i; count = q i }

module _ (b : Book) (w : WellFormed b) where
  pub length-entries : length (entries_of b) ≡ b.count
  unfolding entries_of
  length-entries = let r : b.count ≤ length b.entries = omega (arith, w.few, w.places) in length-take-le b.count b.entries r

  -- a well-formed book is the one that holds its entries
  pub book-of-entries : b ≡ book_of (entries_of b)
  unfolding book_of entries_of
  book-of-entries =
      let n : length (take b.count b.entries) ≡ b.count = length-entries in
      same-book (sym (take-append-drop b.count b.entries) ∙ rw (n, w.unused) refl) (sym n)

  pub fits-64 : length (entries_of b) ≤ 64
  fits-64 = omega (arith, length-entries, w.few)

-- THEOREM. "EQUAL ENTRIES IN EQUAL RANK ORDER ARE THE SAME BOOK": two well-formed books that have them are equal, array and count; and only such are
pub one-book : {a b : Book} → WellFormed a → WellFormed b → (entries_of a ≡ entries_of b → a ≡ b) × (a ≡ b → entries_of a ≡ entries_of b)
one-book {a} {b} v w = (λ e. book-of-entries a v ∙ ap book_of e ∙ sym (book-of-entries b w), λ e. ap entries_of e)

module _ (l : List Entry) where
  pub entries-of-book : entries_of (book_of l) ≡ l
  unfolding book_of entries_of
  entries-of-book = take-append_seam l (replicate (64 - length l) zero_entry)

  pub book-well-formed : length l ≤ 64 → WellFormed (book_of l)
  unfolding book_of
  book-well-formed fits = record {
    few = fits;
    places = simp (length-append, length-replicate) (omega arith);
    unused = drop-append_seam l (replicate (64 - length l) zero_entry);
  }

-- an entry read from the array is the list's
pub entry_at : (b : Book) (i : ℕ) (d : Entry) → i < b.count → get_or (entries_of b) i d ≡ get_or b.entries i d
unfolding entries_of
entry_at b i d h = get_or-take b.count b.entries i d h

-- what a caller uses of a book that an operation answered, `r ≡ book_of l`
pub record Holds (r : Book) (l : List Entry) : Type 0 where
  pub well : WellFormed r
  pub list : entries_of r ≡ l
  pub size : r.count ≡ length l

pub holds : {r : Book} {l : List Entry} → r ≡ book_of l → length l ≤ 64 → Holds r l
unfolding book_of
holds {r} {l} e fits = record {
  well = rw e (book-well-formed l fits);
  list = ap entries_of e ∙ entries-of-book l;
  size = ap (λ (b : Book). b.count) e;
}
