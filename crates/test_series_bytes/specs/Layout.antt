-- A series in bytes, as the test programs' tables have it.
-- Assumes nothing.
use Rattle.std.specs.Prelude.{ℕ, ◌+◌, Bool, List, eqb, drop}
use Rattle.test_reading.specs.Number.{byte_at, number_at}
use Rattle.test_reading.specs.Row.{row}
use Rattle.test_book_bytes.specs.Layout.{book_in}
use Rattle.terms.specs.declared.Terms.{Terms}
use Rattle.series.specs.declared.Series.{Series}

-- M, K, strike, phase, away bid, away offer, underlying price and the last number given; then put and exempt
abbrev pub terms_in : List ℕ → Terms
terms_in l = record {
  put = eqb (byte_at l 32) 1;
  exempt = eqb (byte_at l 33) 1;
  m = number_at l 0;
  k = number_at l 4;
  strike = number_at l 8;
  phase = number_at l 12;
  bid = number_at l 16;
  offer = number_at l 20;
  underlying = number_at l 24;
  given = number_at l 28;
}

-- makers 1 to 16
abbrev pub blocked_in : List ℕ → List Bool
blocked_in l = row (λ (k : ℕ). eqb (byte_at l (34 + k)) 1) 16

-- and then the book
abbrev pub series_in : List ℕ → Series
series_in l = record { terms = terms_in l; blocked = blocked_in l; book = book_in (drop 50 l) }
