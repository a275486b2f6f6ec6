-- SOUND-DECIDES: the test `sound_book` comes out true for the books that are sound in document 01's words, and for no others.
-- The words are in specs/SoundBook; that each clause and its test agree is in DecideLaws.
-- Assumes nothing.
use Prim.Native.Nat.{ℕ, ◌+◌, ◌-◌}
use mathlib.Core.Path.{◌≡◌, refl}
use mathlib.Core.Bool.{true, ◌&&◌}
use native.Mathlib.Omega.{arith}
use borrow.Author.Tests.{leb-true, le-leb}
use lib.Dec.{leb}
use lib.ListN.{drop}
use Rattle.lists.specs.Tests.{all, pairs}
use Rattle.lists.proofs.Bools.{and_left, and_right, and_both}
use Rattle.book.specs.declared.Entry.{Entry}
use Rattle.book.specs.declared.Book.{Book}
use Rattle.book.specs.Shape.{zero_entry, entries_of}
use Rattle.soundness_theory.specs.Sound.{sound_entry, sound_pair, sound_entries, unused_entry, sound_book}
use Rattle.soundness.specs.SoundBook.{Each, EachTwo, SoundBook}
use Rattle.soundness.proofs.BookLaws.{unused-zero}
use Rattle.soundness.proofs.DecideLaws.{SoundEntry, SoundTwo, entry-facts, facts-entry, facts-two, two_at, test_at, at_test, at-pairs, behind, before}

module _ (m given : ℕ) (b : Book) where
  -- the four tests that the test of a book is made of
  record Passes : Type 0 where
    few : leb b.count 64 ≡ true
    entries : all (sound_entry m given) (entries_of b) ≡ true
    two : pairs sound_pair (entries_of b) ≡ true
    unused : all unused_entry (drop b.count b.entries) ≡ true

  passes : sound_book m given b ≡ true → Passes
  unfolding sound_book sound_entries
  passes h =
      let few = leb b.count 64 in
      let entries = all (sound_entry m given) (entries_of b) in
      let two = pairs sound_pair (entries_of b) in
      let unused = all unused_entry (drop b.count b.entries) in
      let rest = and_right few ((entries && two) && unused) h in
      let both = and_left (entries && two) unused rest in
      record {
        few = and_left few ((entries && two) && unused) h;
        entries = and_left entries two both;
        two = and_right entries two both;
        unused = and_right (entries && two) unused rest;
      }

  passed : Passes → sound_book m given b ≡ true
  unfolding sound_book sound_entries
  passed p =
      let few = leb b.count 64 in
      let entries = all (sound_entry m given) (entries_of b) in
      let two = pairs sound_pair (entries_of b) in
      let unused = all unused_entry (drop b.count b.entries) in
      and_both few ((entries && two) && unused) p.few
      (and_both (entries && two) unused (and_both entries two p.entries p.two) p.unused)

  -- what passes them is sound
  facts : Passes → SoundBook m given b
  facts p = record {
    few = leb-true b.count 64 p.few;
    distinct = λ i j x y o k l. (two i j x y o k l).numbers;
    numbered = λ i e at. (one i e at).number;
    figures = λ i e at. (one i e at).figures;
    quotes = λ i j x y o k l. (two i j x y o k l).quotes;
    uncrossed = λ i j x y o k l. (two i j x y o k l).uncrossed;
    prices = λ i e at. (one i e at).prices;
    unused = λ i e past at.
        unused-zero e (test_at unused_entry (drop b.count b.entries) p.unused (i - b.count) e (behind b.count b.entries i e past at));
  }
    where
      one : Each b (SoundEntry m given)
      one i e at = entry-facts m given e (test_at (sound_entry m given) (entries_of b) p.entries i e at)

      two : EachTwo b SoundTwo
      two = two_at (entries_of b) p.two

  -- and what is sound passes them
  tests : SoundBook m given b → Passes
  tests f = record {
    few = le-leb b.count 64 f.few;
    entries = at_test (sound_entry m given) (entries_of b) (λ i e at. facts-entry m given e (one i e at));
    two = at-pairs sound_pair (entries_of b)
        (λ i j x y o p q. facts-two x y (two i j x y (λ e. omega arith) p q) (two j i y x (λ e. omega arith) q p));
    unused = at_test unused_entry (drop b.count b.entries)
        (λ k e at. zero-unused e (f.unused (b.count + k) e (omega arith) (before b.count b.entries k e (b.count + k) refl at)));
  }
    where
      one : Each b (SoundEntry m given)
      one i e at = record { number = f.numbered i e at; figures = f.figures i e at; prices = f.prices i e at }

      two : EachTwo b SoundTwo
      two i j x y o p q = record { numbers = f.distinct i j x y o p q; quotes = f.quotes i j x y o p q; uncrossed = f.uncrossed i j x y o p q }

      zero-unused : (e : Entry) → e ≡ zero_entry → unused_entry e ≡ true
      zero-unused e h = rw h

  -- THE THEOREM
  pub sound-decides : (sound_book m given b ≡ true → SoundBook m given b) × (SoundBook m given b → sound_book m given b ≡ true)
  sound-decides = (λ h. facts (passes h), λ f. passed (tests f))
