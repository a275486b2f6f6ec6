-- A rule that is put to use again and again until it is done, each time with one record of what it did.
-- Assumes nothing.
use Rattle.std.specs.Prelude.{ℕ, zero, suc, ◌≡◌, List, [], ◌∷◌, ◌++◌}

-- one step of a rule at a state: it is done, or it leaves one record and goes on
pub data Step (S R : Type 0) : Type 0 where
  stop : Step S R
  go : R → S → Step S R

-- A WHOLE RUN, from a state by steps to one at which the rule is done, with one record for each step.
pub data Complete {S R : Type 0} (step : S → Step S R) : S → List R → S → Type 0 where
  done : {s : S} → step s ≡ stop → Complete step s [] s
  then : {s t u : S} {r : R} {rs : List R} → step s ≡ go r t → Complete step t rs u → Complete step s (r ∷ rs) u

-- The same, computed. A definition must say how many steps it may take at most, so it takes a measure of the state; where each
-- step lowers the measure, `ran` is the one complete run and the measure shows nowhere else (proofs/RunLaws).
pub record Ran (S R : Type 0) : Type 0 where
  pub final : S
  pub records : List R

module _ {S R : Type 0} where
  unfoldable pub still : S → Ran S R
  still s = record { final = s; records = [] }

  unfoldable pub leading : R → Ran S R → Ran S R
  leading r x = record { final = x.final; records = r ∷ x.records }

  -- one run behind another, with the records of both
  abbrev pub and_then : Ran S R → (S → Ran S R) → Ran S R
  and_then x f = record { final = (f x.final).final; records = x.records ++ (f x.final).records }

  -- at most n steps
  unfoldable pub run_for : (S → Step S R) → ℕ → S → Ran S R
  run_for step zero s = still s
  run_for step (suc n) s = elim (step s) [ stop ↦ still s | go r t ↦ leading r (run_for step n t) ]

  unfoldable pub ran : (S → Step S R) → (S → ℕ) → S → Ran S R
  ran step measure s = run_for step (measure s) s
