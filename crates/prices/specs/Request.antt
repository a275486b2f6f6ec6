-- What the classroom server asks: one quote's aims by number. "That request names kind, side, limit, away and contra price (0 for none) and M."
-- Assumes nothing.
use Rattle.std.specs.Prelude.{ℕ, Bool, cond, ◌&&◌, eqb, leb, Result, Ok, Err}
use Rattle.kinds.specs.Kinds.{asked}
use Rattle.prices.specs.declared.Prices.{Prices}
use Rattle.kinds.specs.declared.refusal.Refusal.{Refusal}
use Rattle.kinds.specs.Refusals.{number_of}
use Rattle.prices.specs.Step.{mpv, legal, none_or_legal}
use Rattle.prices.specs.Aims.{aims}

-- "It is refused with 1 for a kind other than 3 and 4, a side above 1 or an M not listed,"
abbrev pub askable : ℕ → ℕ → ℕ → Bool
askable kind side m = asked kind && (leb side 1 && mpv m)

-- "then with 3 for an illegal price,"
abbrev pub prices_legal : ℕ → ℕ → ℕ → ℕ → Bool
prices_legal m limit away contra = legal m limit && (none_or_legal m away && none_or_legal m contra)

-- the answer as it is told: refusal 0 and the aims, or the refusal
pub record Answered : Type 0 where
  pub refusal : ℕ
  pub display : ℕ
  pub working : ℕ

-- "and both aims are then 0."
abbrev pub aims_refused : ℕ → Answered
aims_refused why = record { refusal = why; display = 0; working = 0 }

abbrev pub aims_granted : Prices → Answered
aims_granted aim = record { refusal = 0; display = aim.display; working = aim.working }

unfoldable pub aims_answered : ℕ → ℕ → ℕ → ℕ → ℕ → ℕ → Answered
aims_answered kind side limit away contra m =
    cond (askable kind side m)
    (cond (prices_legal m limit away contra) (aims_granted (aims m kind (eqb side 1) limit away contra)) (aims_refused 3))
    (aims_refused 1)

-- the three numbers that tell a result
abbrev pub told : Result Prices Refusal → Answered
told (Ok aim) = aims_granted aim
told (Err why) = aims_refused (number_of why)
