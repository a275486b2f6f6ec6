-- THE REFUSALS, by the documents' numbers: 1 to 11 are document 01's, 12 is document 02's.
-- Assumes nothing.
use Rattle.std.specs.Prelude.{ℕ, Bool, true, false, Result, Ok, Err}
use Rattle.kinds.specs.declared.refusal.Refusal.{Refusal}
use Rattle.kinds.specs.declared.refusal.Refusal.TheVariants.{Nothing, Party, Price, Quantity, NotOpen, Blocked}
use Rattle.kinds.specs.declared.refusal.Refusal.TheVariants.{Full, Missing, Spent, ShortRoom, Unsound, NoReport}

abbrev pub number_of : Refusal → ℕ
number_of Nothing = 1
number_of Party = 2
number_of Price = 3
number_of Quantity = 4
number_of NotOpen = 5
number_of Blocked = 6
number_of Full = 7
number_of Missing = 8
number_of Spent = 9
number_of ShortRoom = 10
number_of Unsound = 11
number_of NoReport = 12

-- a test of a refusal: it holds, and refuses, or the next may be asked
abbrev pub refused_if : Bool → Refusal → Result (Unit {0}) Refusal
refused_if true why = Err why
refused_if false why = Ok tt
