-- A sound series as arrival, settling and the handler ask for it, and what they must show of the one they leave.
-- Assumes nothing.
use Prim.Native.Nat.{ℕ, zero, suc, ◌-◌, ◌≤◌}
use mathlib.Core.Path.{◌≡◌, refl}
use mathlib.Core.Bool.{Bool, true, ◌&&◌}
use mathlib.Core.List.{List}
use native.Mathlib.Omega.{arith}
use lib.Dec.{leb}
use lib.ListN.{length, drop, replicate, length-take}
use lib.Seq.{drop-append_seam}
use borrow.Author.Tests.{leb-true, le-leb}
use Rattle.prices.specs.Step.{mpv}
use Rattle.lists.specs.Tests.{all}
use Rattle.lists.proofs.Bools.{and_parts, and_both}
use Rattle.book.specs.declared.Entry.{Entry}
use Rattle.book.specs.declared.Book.{Book}
use Rattle.book.specs.Shape.{zero_entry, entries_of, book_of}
use Rattle.book.proofs.ShapeLaws.{one-book, entries-of-book}
use Rattle.book.specs.Entries.{last_number}
use Rattle.soundness_theory.specs.Sound.{sound_entries, unused_entry, sound_book}
use Rattle.soundness_theory.specs.SoundMarket.{sound_market}
use Rattle.soundness.proofs.BookLaws.{sound-well}
use Rattle.terms.specs.declared.Terms.{Terms}
use Rattle.terms.specs.Terms.{market_of}
use Rattle.series.specs.declared.Series.{Series}
use Rattle.series.specs.Series.{sound_series}
use Rattle.series.specs.SoundSeries.{LegalTerms, SoundPhase, SoundSeries}
use Rattle.series.proofs.TermsLaws.{step-mpv, price-if-any, facts-terms, facts-phase}
use Rattle.series.proofs.SoundSeriesDecides.{passes, passed, sound-series-decides}

-- ---- the book ----

module _ (m top : ℕ) where
  -- its entries are sound, and no more than 64
  book-entries : (b : Book) → sound_book m top b ≡ true → (sound_entries m top (entries_of b) ≡ true) × (length (entries_of b) ≤ 64)
  unfolding sound_book entries_of
  book-entries b h =
      let a = and_parts (leb b.count 64) (sound_entries m top (entries_of b) && all unused_entry (drop b.count b.entries)) h in
      let n : b.count ≤ 64 = leb-true b.count 64 a.0 in
      ((and_parts (sound_entries m top (entries_of b)) (all unused_entry (drop b.count b.entries)) a.1).0, simp length-take (omega arith))

  zeros-unused : (n : ℕ) → all unused_entry (replicate n zero_entry) ≡ true
  unfolding all
  zeros-unused zero = refl
  zeros-unused (suc n) = zeros-unused n

  fits-64 : (l : List Entry) → length l ≤ 64 → leb (book_of l).count 64 ≡ true
  unfolding book_of
  fits-64 l n = le-leb (length l) 64 n

  rest-unused : (l : List Entry) → all unused_entry (drop (book_of l).count (book_of l).entries) ≡ true
  unfolding book_of
  rest-unused l = rw (drop-append_seam l (replicate (64 - length l) zero_entry)) (zeros-unused (64 - length l))

  tests-book : (l : List Entry) → sound_entries m top l ≡ true → length l ≤ 64 → sound_book m top (book_of l) ≡ true
  unfolding sound_book
  tests-book l h n =
      and_both (leb (book_of l).count 64) (sound_entries m top (entries_of (book_of l)) && all unused_entry (drop (book_of l).count (book_of l).entries))
      (fits-64 l n)
      (and_both (sound_entries m top (entries_of (book_of l))) (all unused_entry (drop (book_of l).count (book_of l).entries)) (rw (entries-of-book l) h)
      (rest-unused l))

-- ---- the series ----

-- sound numbers are a sound market
pub terms-market : (t : Terms) → LegalTerms t → sound_market (market_of t) ≡ true
unfolding sound_market
terms-market t f = rw (step-mpv f.step, price-if-any t.m t.bid f.bid, price-if-any t.m t.offer f.offer)

pub record SeriesFacts (s : Series) : Type 0 where
  pub sound : SoundSeries s
  pub step : mpv s.terms.m ≡ true
  pub market : sound_market (market_of s.terms) ≡ true
  pub entries : sound_entries s.terms.m s.terms.given (entries_of s.book) ≡ true
  -- "At most 64 resting entries."
  pub size : length (entries_of s.book) ≤ 64

-- WHAT A SOUND SERIES TELLS
pub series-facts : (s : Series) → sound_series s ≡ true → SeriesFacts s
series-facts s h =
    let f = (sound-series-decides s).0 h in
    let b = book-entries s.terms.m s.terms.given s.book (passes s h).book in
    record { sound = f; step = step-mpv f.terms.step; market = terms-market s.terms f.terms; entries = b.0; size = b.1 }

-- AND THE OTHER DIRECTION, of a series that holds the entries l
pub facts-series : (t : Terms) (blocked : List Bool) (l : List Entry) → LegalTerms t → t.given ≤ last_number → sound_entries t.m t.given l ≡ true
    → length l ≤ 64
    → SoundPhase t.phase l → sound_series (record { terms = t; blocked = blocked; book = book_of l }) ≡ true
facts-series t blocked l f most e n p = passed (record { terms = t; blocked = blocked; book = book_of l }) (record {
  terms = facts-terms t f most;
  book = tests-book t.m t.given l e n;
  phase = rw (entries-of-book l) (facts-phase t.phase l p);
})

-- THEOREM. TWO SOUND SERIES with equal numbers, equal block lists and EQUAL ENTRIES IN EQUAL RANK ORDER ARE THE SAME SERIES. That there are 64 places is the
-- array's type. It stands for the reader: it is what `one-book` of crate book is for a whole state
pub one-series : {a b : Series} → sound_series a ≡ true → sound_series b ≡ true → length a.book.entries ≡ 64 → length b.book.entries ≡ 64
    → a.terms ≡ b.terms → a.blocked ≡ b.blocked → entries_of a.book ≡ entries_of b.book → a ≡ b
one-series {a} {b} sound-a sound-b places-a places-b terms blocked entries =
    let well-a = sound-well a.terms.m a.terms.given a.book (passes a sound-a).book places-a in
    let well-b = sound-well b.terms.m b.terms.given b.book (passes b sound-b).book places-b in
    let book = (one-book well-a well-b).0 entries in
    λ i. record { terms = terms i; blocked = blocked i; book = book i }
