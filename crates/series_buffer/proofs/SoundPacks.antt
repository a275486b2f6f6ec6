-- EVERY SOUND SERIES PACKS: soundness bounds each number, and so it fits its bytes.
-- Assumes nothing.
use Prim.Native.Nat.{ℕ, ◌≤◌, ◌<◌}
use mathlib.Core.Path.{◌≡◌, refl, sym, ap, subst, ◌∙◌}
use mathlib.Core.Bool.{Bool, true, false, ◌&&◌}
use mathlib.Core.List.{List, [], ◌∷◌, ◌++◌, map}
use Rattle.std.specs.Prelude.{Some}
use native.Mathlib.Omega.{arith}
use lib.Dec.{eqb, leb}
use borrow.Author.Tests.{eqb-true}
use lib.ListN.{length, take, drop, replicate, take-append-drop}
use Rattle.prices.specs.Step.{none_or_legal, top_price}
use Rattle.prices.proofs.StepLaws.{is-mpv, small, is-none-or-legal}
use Rattle.lists.proofs.Bools.{and_left, and_right}
use Rattle.lists.specs.Tests.{All, all}
use Rattle.lists.proofs.TestLaws.{all_map, all_append, all_true, true-all}
use Rattle.bits.specs.Fields.{Fit}
use Rattle.packing.specs.Codec.{bit, only_if, packs}
use Rattle.packing.proofs.CodecLaws.{fit-packs}
use Rattle.packing.proofs.ReportLaws.{bit-small}
use Rattle.kinds.proofs.KindLaws.{enters-high}
use Rattle.book.specs.declared.Entry.{Entry}
use Rattle.book.specs.declared.Pricing.{Pricing}
use Rattle.book.specs.declared.Pricing.TheVariants.{Fixed, Dark, Sliding}
use Rattle.book.specs.Shape.{entries_of}
use Rattle.book.specs.Entries.{last_number, pricing_number}
use Rattle.soundness_theory.specs.Sound.{unused_entry, sound_entries, sound_book}
use Rattle.soundness_theory.proofs.Facts.{PricedAs, EntryFacts}
use Rattle.soundness_theory.proofs.SoundFacts.{is-sound}
use Rattle.soundness.proofs.BookLaws.{unused-zero}
use Rattle.series.specs.declared.Series.{Series}
use Rattle.series.specs.Series.{sound_series, sound_terms, sound_phase}
use Rattle.series.proofs.TermsLaws.{price-if-any}
use Rattle.series.proofs.SeriesFacts.{SeriesFacts, series-facts}
use Rattle.series_buffer.specs.Header.{headers}
use Rattle.series_buffer.specs.Entry.{entries, own_display}
use Rattle.series_buffer.specs.State.{header_of, packs_series, series_bytes, pack_series}
use Rattle.series_buffer.proofs.StateLaws.{fit_parts}

flags-fit : (l : List Bool) → Fit (replicate (length l) 1) (map bit l)
flags-fit [] = tt
flags-fit (b ∷ l) = (bit-small b, flags-fit l)

-- ---- an entry ----

number_fits : (p : Pricing) → pricing_number p < 256
number_fits Fixed = omega arith
number_fits Dark = omega arith
number_fits (Sliding d) = omega arith

display-fits : (m kind limit w : ℕ) (s : Bool) (p : Pricing) → PricedAs m kind s limit w p → own_display p < 4294967296
display-fits m kind limit w s Fixed f = omega arith
display-fits m kind limit w s Dark f = omega arith
display-fits m kind limit w s (Sliding d) f = omega (arith, f.slides.shown.high)

entry-packs : (m top : ℕ) → top ≤ last_number → (e : Entry) → EntryFacts m top e → packs entries e ≡ true
entry-packs m top few e f =
    fit-packs entries e (
      omega (arith, f.given, few),
      (
        omega (arith, f.limit.high),
        (
          omega (arith, f.most),
          (
            omega (arith, f.works.high),
            (
              display-fits m e.kind e.limit e.working e.sell e.pricing f.prices,
              (
                omega (arith, f.party_high),
                (
                  omega (arith, enters-high _ f.entering),
                  (
                    omega (arith, bit-small e.sell),
                    (number_fits e.pricing, tt),
                  ),
                ),
              ),
            ),
          ),
        ),
      ),
    )
    refl

zero-packs : (e : Entry) → unused_entry e ≡ true → packs entries e ≡ true
unfolding packs
zero-packs e h = ap (packs entries) (unused-zero e h)

-- ---- a series ----

module _ (s : Series) (sound : sound_series s ≡ true) (places : length s.book.entries ≡ 64) (makers : length s.blocked ≡ 16) where
  facts : SeriesFacts s
  facts = series-facts s sound

  given-few : (p : ℕ) → none_or_legal s.terms.m p ≡ true → p ≤ top_price
  given-few p g = by (eqb p 0) refl
    where
      by : (b : Bool) → eqb p 0 ≡ b → p ≤ top_price
      by true q = omega (arith, eqb-true p 0 q)
      by false q = ((is-none-or-legal s.terms.m p g).legal q).high

  header-packs : packs headers (header_of s) ≡ true
  header-packs =
      let t = facts.sound.terms in
      fit-packs headers (header_of s) (
        omega (arith, (small (is-mpv s.terms.m facts.step)).1),
        (
          omega (arith, t.steps),
          (
            omega (arith, t.strike.1),
            (
              omega (arith, t.phase),
              (
                omega (arith, given-few s.terms.bid (price-if-any s.terms.m s.terms.bid t.bid)),
                (
                  omega (arith, given-few s.terms.offer (price-if-any s.terms.m s.terms.offer t.offer)),
                  (
                    omega (arith, t.underlying),
                    (
                      omega (arith, facts.sound.most),
                      (
                        omega (arith, bit-small s.terms.put),
                        (
                          omega (arith, bit-small s.terms.exempt),
                          (
                            omega (arith, facts.sound.few),
                            subst (λ (n : ℕ). Fit (replicate n 1) (map bit s.blocked)) makers (flags-fit s.blocked),
                          ),
                        ),
                      ),
                    ),
                  ),
                ),
              ),
            ),
          ),
        ),
      )
      refl

  resting-pack : All (λ (e : Entry). packs entries e ≡ true) (take s.book.count s.book.entries)
  unfolding entries_of
  resting-pack =
      all_map (entry-packs s.terms.m s.terms.given facts.sound.most) (entries_of s.book)
      (is-sound s.terms.m s.terms.given (entries_of s.book) facts.step facts.entries).entries

  unused : all unused_entry (drop s.book.count s.book.entries) ≡ true
  unfolding sound_series sound_book
  unused =
      let t = s.terms in
      let b = s.book in
      let rest = all unused_entry (drop b.count b.entries) in
      let book = sound_book t.m t.given b in
      and_right (sound_entries t.m t.given (entries_of b)) rest
      (and_right (leb b.count 64) (sound_entries t.m t.given (entries_of b) && rest)
      (and_left book (sound_phase t.phase (entries_of b)) (and_right (sound_terms t) (book && sound_phase t.phase (entries_of b)) sound)))

  unused-pack : All (λ (e : Entry). packs entries e ≡ true) (drop s.book.count s.book.entries)
  unused-pack =
      all_map zero-packs (drop s.book.count s.book.entries)
      (all_true unused_entry (drop s.book.count s.book.entries) unused)

  entries-pack : all (packs entries) s.book.entries ≡ true
  entries-pack =
      sym (ap (all (packs entries)) (take-append-drop s.book.count s.book.entries))
      ∙ true-all (packs entries) (take s.book.count s.book.entries ++ drop s.book.count s.book.entries)
      (all_append (λ (e : Entry). packs entries e ≡ true) (take s.book.count s.book.entries) (drop s.book.count s.book.entries)
      resting-pack unused-pack)

  -- THEOREM. A sound series, with its 64 places and 16 makers, packs
  pub sound-packs : packs_series s ≡ true
  sound-packs = fit_parts s header-packs places entries-pack

  pub sound-state : pack_series s ≡ Some (series_bytes s)
  unfolding pack_series
  sound-state = ap (λ (b : Bool). only_if b (Some (series_bytes s))) sound-packs
