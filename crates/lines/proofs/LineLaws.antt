-- The lines that are printed, part by part, and how long they are.
use Prim.Native.Nat.{ℕ, suc, ◌+◌, ◌-◌, ◌*◌, ◌^◌, ◌≤◌, ◌<◌}
use mathlib.Core.List.{List, [], ◌∷◌, ◌++◌}
use Rattle.std.specs.Prelude.{Option}
use mathlib.Core.Path.{◌≡◌, sym, ap, ◌∙◌}
use native.Mathlib.Numerals.{add-one}
use native.Mathlib.Omega.{arith}
use lib.ListN.{length, drop, get_or, length-append, drop_of_length-le}
use lib.Seq.{drop-cons, drop-drop}
use Rattle.packing.specs.declared.report.Report.{Report}
use Rattle.packing.specs.Report.{report_size}
use Rattle.packing.specs.Room.{report_at, read_back}
use Rattle.lines.specs.Decimal.{decimal}
use Rattle.lines.specs.Buffer.{longest_line}
use Rattle.lines.proofs.DecimalLaws.{decimal-length}
use Rattle.lines.specs.Lines.{space, spaced, FitWord, field_line, refusal_line, line_of, report_lines}

-- HOW LONG the lines are, by their parts
pub line-length : (number : ℕ) (xs : List ℕ) → length (field_line number xs) ≡ length (decimal number) + length (spaced xs) + 1
unfolding field_line
line-length number xs = simp length-append

pub refusal-length : (number refusal : ℕ) → length (refusal_line number refusal) ≡ length (decimal number) + 9 + length (decimal refusal) + 1
unfolding refusal_line
refusal-length number refusal = simp length-append

-- NO LINE OF UP TO NINE FIELDS IS LONGER THAN 120 BYTES, where each fits 32 bits and the message's number 64
fields-short : (xs : List ℕ) → FitWord xs → length (spaced xs) ≤ 11 * length xs
fields-short [] f = omega arith
fields-short (x ∷ xs) f =
    omega (arith, length-append (space ∷ decimal x) (spaced xs), decimal-length 9 x (omega (arith, f.0)), fields-short xs f.1)

pub line-short : (number : ℕ) (xs : List ℕ) → number < 2 ^ 64 → length xs ≤ 9 → FitWord xs → length (field_line number xs) ≤ longest_line
line-short number xs n few f = omega (arith, line-length number xs, decimal-length 19 number (omega arith), fields-short xs f, few)

-- the next field, and the fields behind it
pub next_field : (xs : List ℕ) (i : ℕ) → i < length xs → spaced (drop i xs) ≡ (space ∷ decimal (get_or xs i 0)) ++ spaced (drop (i + 1) xs)
next_field xs i h = ap spaced (drop-cons xs i 0 h ∙ ap (λ (k : ℕ). get_or xs i 0 ∷ drop k xs) (sym (add-one i)))

-- No proof cites it: the check finds it where the loop of `fields` ends. It stands as the end of that loop, beside its turn.
pub no_field : (xs : List ℕ) (i : ℕ) → length xs ≤ i → spaced (drop i xs) ≡ []
no_field xs i h = ap spaced (drop_of_length-le xs h)

-- what is left of the room's reports from a place on
abbrev pub left_from : List ℕ → ℕ → ℕ → List (Option Report)
left_from room count k = read_back (count - k) (drop (report_size * k) room)

pub next_place : (room : List ℕ) (count k : ℕ) → k < count → left_from room count k ≡ report_at room k ∷ left_from room count (k + 1)
next_place room count k h =
    ap (λ (n : ℕ). read_back n (drop (report_size * k) room)) fewer
    ∙ ap (λ (l : List ℕ). report_at room k ∷ read_back (count - (k + 1)) l) (drop-drop 14 (report_size * k) room ∙ ap (λ (n : ℕ). drop n room) ahead)
  where
    fewer : count - k ≡ suc (count - (k + 1))
    fewer = omega arith

    ahead : report_size * k + 14 ≡ 14 * (k + 1)
    ahead = omega arith

pub all-places : (room : List ℕ) (count : ℕ) → read_back count room ≡ left_from room count 0
all-places room count = ap (λ (n : ℕ). read_back n room) all
  where
    all : count ≡ count - 0
    all = omega arith

pub no-place-left : (room : List ℕ) (count k : ℕ) → count ≤ k → left_from room count k ≡ []
no-place-left room count k h = ap (λ (n : ℕ). read_back n (drop (report_size * k) room)) none_left
  where
    none_left : count - k ≡ 0
    none_left = omega arith

-- and the lines of these
pub next-line : (number : ℕ) (room : List ℕ) (count k : ℕ) → k < count
    → report_lines number (left_from room count k) ≡ line_of number (report_at room k) ++ report_lines number (left_from room count (k + 1))
next-line number room count k h = ap (report_lines number) (next_place room count k h)

pub all_lines : (number : ℕ) (room : List ℕ) (count : ℕ) → report_lines number (read_back count room) ≡ report_lines number (left_from room count 0)
all_lines number room count = ap (report_lines number) (all-places room count)

pub no_line : (number : ℕ) (room : List ℕ) (count k : ℕ) → count ≤ k → report_lines number (left_from room count k) ≡ []
no_line number room count k h = ap (report_lines number) (no-place-left room count k h)
