-- The lines of reasons, one by one, and how long they are.
-- Assumes nothing.
use Prim.Native.Nat.{ℕ, ◌+◌, ◌^◌, ◌≤◌, ◌<◌}
use mathlib.Core.List.{List, [], ◌∷◌, ◌++◌}
use Rattle.std.specs.Prelude.{Option}
use mathlib.Core.Path.{◌≡◌, ap}
use native.Mathlib.Omega.{arith}
use Rattle.std.specs.Prelude.{Ok}
use lib.ListN.{length, length-append}
use Rattle.packing.specs.declared.message.Event.{Event}
use Rattle.packing.specs.Room.{report_at, read_back}
use Rattle.series.specs.declared.Series.{Series}
use Rattle.why.specs.Why.{why_of}
use Rattle.lines.specs.Decimal.{decimal}
use Rattle.lines.specs.Lines.{space}
use Rattle.lines.specs.Buffer.{longest_line}
use Rattle.lines.proofs.DecimalLaws.{decimal-length}
use Rattle.lines.proofs.LineLaws.{left_from, next_place, all-places, no-place-left}
use Rattle.transcript.specs.WhyLines.{none_word, none_line, why_line, why_lines}

-- how long the line is where there is no reason to give, by its parts, and at the most
pub none-length : (number place : ℕ) → length (none_line number place) ≡ length (decimal number) + (1 + length (decimal place)) + 6
unfolding none_line
none-length number place =
    omega (arith, length-append (decimal number ++ (space ∷ decimal place)) none_word, length-append (decimal number) (space ∷ decimal place))

pub none-short : (number place : ℕ) → number < 2 ^ 64 → place < 2 ^ 32 → length (none_line number place) ≤ longest_line
none-short number place n p =
    omega (arith, none-length number place, decimal-length 19 number (omega arith), decimal-length 9 place (omega arith))

-- ---- line by line ----

module _ (number : ℕ) (s : Series) (event : Option Event) (room : List ℕ) (count : ℕ) where
  -- the lines that are left from a place on
  abbrev pub whys_from : ℕ → List ℕ
  whys_from k = why_lines number s event k (left_from room count k)

  pub all-whys : why_lines number s event 0 (read_back count room) ≡ whys_from 0
  all-whys = ap (why_lines number s event 0) (all-places room count)

  pub next-why : (k : ℕ) → k < count → whys_from k ≡ why_line number k (Ok (why_of s event (report_at room k))) ++ whys_from (k + 1)
  next-why k h = ap (why_lines number s event k) (next_place room count k h)

  pub no-why : (k : ℕ) → count ≤ k → whys_from k ≡ []
  no-why k h = ap (why_lines number s event k) (no-place-left room count k h)
