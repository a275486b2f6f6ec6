-- THE REASONS of a test of arrival, by document 01's numbers.
-- Assumes nothing.
use Rattle.std.specs.Prelude.{ℕ, Option, Some, None}
use Rattle.prices.specs.declared.reason.Reason.{Reason}
use Rattle.prices.specs.declared.reason.Reason.TheVariants.{Locking, Obstructed, TooDistant, Unshowable, TooFar, AboveUnderlying, AboveStrike}

abbrev pub number_of : Reason → ℕ
number_of Locking = 20
number_of Obstructed = 21
number_of TooDistant = 22
number_of Unshowable = 23
number_of TooFar = 24
number_of AboveUnderlying = 25
number_of AboveStrike = 26

-- as reports and the rules' definitions tell it, 0 for none: no two have one number (`same-reason` of proofs/ReasonLaws)
abbrev pub reason_number : Option Reason → ℕ
reason_number None = 0
reason_number (Some why) = number_of why
