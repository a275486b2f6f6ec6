-- What the session program prints: document 01, "Class examples".
use Rattle.std.specs.Prelude.{ℕ, ◌^◌, ◌<◌, cond, List, [], ◌∷◌, ◌++◌, eqb}
use Rattle.std.specs.Prelude.{Option, None, Some}
use Rattle.packing.specs.declared.report.Report.{Report}
use Rattle.packing.specs.Report.{fields_of}
use Rattle.packing.specs.Room.{read_back}
use Rattle.lines.specs.Decimal.{decimal}

-- the byte of a space and the byte that ends a line
abbrev pub space : ℕ
space = 32

abbrev pub line_end : ℕ
line_end = 10

-- ` refused `, with its spaces
abbrev pub refused_word : List ℕ
refused_word = space ∷ 114 ∷ 101 ∷ 102 ∷ 117 ∷ 115 ∷ 101 ∷ 100 ∷ space ∷ []

-- numbers, a space before each
abbrev pub spaced : List ℕ → List ℕ
spaced [] = []
spaced (x ∷ xs) = (space ∷ decimal x) ++ spaced xs

-- each fits 32 bits, so that it has ten digits at the most
abbrev pub FitWord : List ℕ → Type 0
FitWord [] = Unit {0}
FitWord (x ∷ xs) = (x < 2 ^ 32) × FitWord xs

-- a line of a message's number and of fields behind it
unfoldable pub field_line : ℕ → List ℕ → List ℕ
field_line number fields = decimal number ++ spaced fields ++ (line_end ∷ [])

-- "It prints per report: message number, then the report's nine fields in order, decimal, one space between."
unfoldable pub report_line : ℕ → Report → List ℕ
report_line number report = field_line number (fields_of report)

-- "A refused message, a short last one included, prints its number, `refused`, the refusal"
unfoldable pub refusal_line : ℕ → ℕ → List ℕ
refusal_line number refusal = decimal number ++ refused_word ++ decimal refusal ++ (line_end ∷ [])

-- the line of what stands at a place of the room: none, where no report does
abbrev pub line_of : ℕ → Option Report → List ℕ
line_of number None = []
line_of number (Some report) = report_line number report

abbrev pub report_lines : ℕ → List (Option Report) → List ℕ
report_lines number [] = []
report_lines number (place ∷ places) = line_of number place ++ report_lines number places

-- WHAT IS PRINTED for message `number`: the line of its refusal; or, where it has none (0), a line for each of the room's first `count` reports
unfoldable pub answer_text : ℕ → ℕ → ℕ → List ℕ → List ℕ
answer_text number refusal count room = cond (eqb refusal 0) (report_lines number (read_back count room)) (refusal_line number refusal)

-- how many lines that is at the most
abbrev pub lines_of : ℕ → ℕ → ℕ
lines_of refusal count = cond (eqb refusal 0) count 1
