-- SOUND-SERIES-DECIDES: the test `sound_series`, whose answer `check_series` gives, comes out true for the series that are sound in document 01's words,
-- and for no others, however damaged. The words are in specs/SoundSeries.
-- Assumes nothing.
use mathlib.Core.Path.{◌≡◌}
use mathlib.Core.Bool.{true, ◌&&◌}
use Rattle.lists.proofs.Bools.{and_parts, and_both}
use Rattle.book.specs.Shape.{entries_of}
use Rattle.soundness_theory.specs.Sound.{sound_book}
use Rattle.soundness.proofs.SoundBookDecides.{sound-decides}
use Rattle.series.specs.declared.Series.{Series}
use Rattle.series.specs.Series.{sound_terms, sound_phase, sound_series}
use Rattle.series.specs.SoundSeries.{SoundSeries}
use Rattle.series.proofs.TermsLaws.{terms-facts, facts-terms, phase-facts, facts-phase}

module _ (s : Series) where
  -- the three tests that the test of a series is made of
  pub record Passes : Type 0 where
    pub terms : sound_terms s.terms ≡ true
    pub book : sound_book s.terms.m s.terms.given s.book ≡ true
    pub phase : sound_phase s.terms.phase (entries_of s.book) ≡ true

  pub passes : sound_series s ≡ true → Passes
  unfolding sound_series
  passes h =
      let book = sound_book s.terms.m s.terms.given s.book in
      let phase = sound_phase s.terms.phase (entries_of s.book) in
      let a = and_parts (sound_terms s.terms) (book && phase) h in
      let b = and_parts book phase a.1 in
      record { terms = a.0; book = b.0; phase = b.1 }

  pub passed : Passes → sound_series s ≡ true
  unfolding sound_series
  passed p =
      let book = sound_book s.terms.m s.terms.given s.book in
      let phase = sound_phase s.terms.phase (entries_of s.book) in
      and_both (sound_terms s.terms) (book && phase) p.terms (and_both book phase p.book p.phase)

  facts : Passes → SoundSeries s
  facts p =
      let t = terms-facts s.terms p.terms in
      let b = (sound-decides s.terms.m s.terms.given s.book).0 p.book in
      record {
        terms = t.0;
        distinct = b.distinct;
        numbered = b.numbered;
        most = t.1;
        figures = b.figures;
        quotes = b.quotes;
        phase = phase-facts s.terms.phase (entries_of s.book) p.phase;
        uncrossed = b.uncrossed;
        prices = b.prices;
        unused = b.unused;
        few = b.few;
      }

  tests : SoundSeries s → Passes
  tests f = record {
    terms = facts-terms s.terms f.terms f.most;
    book = (sound-decides s.terms.m s.terms.given s.book).1 (record {
      few = f.few;
      distinct = f.distinct;
      numbered = f.numbered;
      figures = f.figures;
      quotes = f.quotes;
      uncrossed = f.uncrossed;
      prices = f.prices;
      unused = f.unused;
    });
    phase = facts-phase s.terms.phase (entries_of s.book) f.phase;
  }

  -- THE THEOREM
  pub sound-series-decides : (sound_series s ≡ true → SoundSeries s) × (SoundSeries s → sound_series s ≡ true)
  sound-series-decides = (λ h. facts (passes h), λ f. passed (tests f))
