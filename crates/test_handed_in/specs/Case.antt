-- What a case is read and told by.
-- Assumes nothing.
use Rattle.std.specs.Prelude.{ℕ, min, Bool, not, ◌&&◌, List, eqb}
use Rattle.test_reading.specs.Number.{number_at}
use Rattle.book.specs.declared.Entry.{Entry}
use Rattle.book.specs.Entries.{pricing_number}

-- a length in 4 bytes, and no more than there is place for
abbrev pub length_at : List ℕ → ℕ → ℕ → ℕ
length_at bytes at most = min (number_at bytes at) most

-- what the room holds before a message is handled
abbrev pub filling : ℕ → Bool
filling byte = eqb byte 165

-- what stands in a place that is not used
abbrev pub blank : Entry → Bool
blank e =
    eqb (pricing_number e.pricing) 0 && (eqb e.number 0 && (eqb e.party 0 && (eqb e.kind 0 && (not e.sell
    && (eqb e.limit 0 && (eqb e.quantity 0 && eqb e.working 0))))))
