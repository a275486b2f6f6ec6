-- What the test of a series adds to the test of its book: one law for each way out; and that there is only one answer.
-- Assumes nothing.
use mathlib.Core.Path.{◌≡◌, refl, sym, ◌∙◌}
use mathlib.Core.Bool.{Bool, true, false}
use Rattle.std.specs.Prelude.{Option, None, Some, is_some}
use Rattle.lists.proofs.Bools.{clash}
use Rattle.book.specs.Shape.{entries_of}
use Rattle.book.proofs.ShapeLaws.{length-entries}
use Rattle.soundness_theory.specs.Sound.{sound_book}
use Rattle.soundness.specs.declared.Check.{Check}
use Rattle.soundness.specs.Summary.{Checked}
use Rattle.soundness.proofs.SummaryLaws.{no_answer, checked-one}
use Rattle.series.specs.declared.Series.{Series}
use Rattle.series.specs.Series.{sound_terms, sound_phase, sound_series}
use Rattle.series.specs.Checks.{phase_with, Tested}
use Rattle.series.proofs.TermsLaws.{step-mpv, terms-facts}

-- none is the answer for one that is not sound
refused : (s : Series) → sound_series s ≡ false → Tested s None
refused s f = record { verdict = sym f; checked = λ h. clash h refl }

-- its numbers are not sound
pub terms-fail : (s : Series) → sound_terms s.terms ≡ false → Tested s None
unfolding sound_series
terms-fail s h = refused s (rw h)

module _ (s : Series) (terms : sound_terms s.terms ≡ true) where
  -- with sound numbers the verdict on the book is that of its clauses
  of-book : {r : Option Check} → Checked s.terms.m s.terms.given s.book r → is_some r ≡ sound_book s.terms.m s.terms.given s.book
  of-book k = k.verdict ∙ rw (step-mpv (terms-facts s.terms terms).0.step)

  -- its book is not sound
  pub book-fails : Checked s.terms.m s.terms.given s.book None → Tested s None
  unfolding sound_series
  book-fails k = refused s (rw (terms, ← of-book k))

  module _ (c : Check) (k : Checked s.terms.m s.terms.given s.book (Some c)) where
    -- in a book that passed, the summary tells the clause of phases
    of-phase : sound_phase s.terms.phase (entries_of s.book) ≡ phase_with s.terms.phase s.book.count c.quoted
    unfolding sound_phase
    of-phase = rw (length-entries s.book (k.well refl), ← (k.summary c refl).quoted)

    -- the phase does not go with what rests
    pub phase-fails : phase_with s.terms.phase s.book.count c.quoted ≡ false → Tested s None
    unfolding sound_series
    phase-fails h = refused s (rw (terms, ← of-book k) (of-phase ∙ h))

    -- all that is left to say is what the book's test said
    pub all_pass : phase_with s.terms.phase s.book.count c.quoted ≡ true → Tested s (Some c)
    unfolding sound_series
    all_pass h = record { verdict = rw (terms, ← of-book k) (sym (of-phase ∙ h)); checked = λ _. k }

-- THEOREM. THE PROMISE OF `check_series` FIXES ITS ANSWER: "Two outcomes allowed by one promise are proved equal"
pub tested-one : {s : Series} {x y : Option Check} → Tested s x → Tested s y → x ≡ y
tested-one {x = x} {y = y} c d = go (is_some x) refl
  where
    go : (b : Bool) → is_some x ≡ b → x ≡ y
    go true e = checked-one (c.checked e) (d.checked (sym (c.verdict ∙ sym d.verdict) ∙ e))
    go false e = no_answer e ∙ sym (no_answer (sym (c.verdict ∙ sym d.verdict) ∙ e))
