-- What the test of a series answers.
-- No rule of document 01 stands here, only words for contracts.
-- Assumes nothing.
use Rattle.std.specs.Prelude.{ℕ, ◌≡◌, Bool, true, cond, not, eqb, Option, is_some}
use Rattle.soundness.specs.declared.Check.{Check}
use Rattle.soundness.specs.Summary.{Checked}
use Rattle.series.specs.declared.Series.{Series}
use Rattle.series.specs.Series.{sound_series}

-- the clause of phases, by how many entries rest and whether a quote does
abbrev pub phase_with : ℕ → ℕ → Bool → Bool
phase_with phase count quoted = cond (eqb phase 0) (eqb count 0) (cond (eqb phase 2) (not quoted) true)

-- the verdict, for every series; for a sound one what the pass over its book has seen, and none for any other
pub record Tested (s : Series) (r : Option Check) : Type 0 where
  pub verdict : is_some r ≡ sound_series s
  pub checked : is_some r ≡ true → Checked s.terms.m s.terms.given s.book r
