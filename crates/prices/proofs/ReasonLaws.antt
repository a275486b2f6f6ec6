-- No two reasons have one number: what a contract says of the number of a reason, it says of the reason.
-- Assumes nothing.
use Prim.Native.Nat.{ℕ}
use mathlib.Core.Path.{◌≡◌, refl, sym, ap, ◌∙◌}
use mathlib.Core.Bool.{cond}
use native.Mathlib.Omega.{arith}
use lib.Dec.{eqb}
use Rattle.std.specs.Prelude.{Option, Some, None}
use Rattle.prices.specs.declared.reason.Reason.{Reason}
use Rattle.prices.specs.declared.reason.Reason.TheVariants.{Locking, Obstructed, TooDistant, Unshowable, TooFar, AboveUnderlying, AboveStrike}
use Rattle.prices.specs.Reasons.{number_of, reason_number}

-- the reason that has a number
abbrev reason_at : ℕ → Option Reason
reason_at n =
    cond (eqb n 20) (Some Locking)
    (cond (eqb n 21) (Some Obstructed)
    (cond (eqb n 22) (Some TooDistant)
    (cond (eqb n 23) (Some Unshowable)
    (cond (eqb n 24) (Some TooFar)
    (cond (eqb n 25) (Some AboveUnderlying)
    (cond (eqb n 26) (Some AboveStrike) None))))))

found-again : (r : Option Reason) → reason_at (reason_number r) ≡ r
found-again None = refl
found-again (Some Locking) = refl
found-again (Some Obstructed) = refl
found-again (Some TooDistant) = refl
found-again (Some Unshowable) = refl
found-again (Some TooFar) = refl
found-again (Some AboveUnderlying) = refl
found-again (Some AboveStrike) = refl

pub same-reason : (r q : Option Reason) → reason_number r ≡ reason_number q → r ≡ q
same-reason r q h = sym (found-again r) ∙ ap reason_at h ∙ found-again q

-- and none has 0
pub some-number : (why : Reason) → number_of why ≡ 0 → ⊥
some-number Locking h = absurd (omega arith)
some-number Obstructed h = absurd (omega arith)
some-number TooDistant h = absurd (omega arith)
some-number Unshowable h = absurd (omega arith)
some-number TooFar h = absurd (omega arith)
some-number AboveUnderlying h = absurd (omega arith)
some-number AboveStrike h = absurd (omega arith)
