-- Texts worked out: numbers, and lines that document 01 shows.
use mathlib.Core.Bool.{true}
use mathlib.Core.List.{[], ◌∷◌}
use mathlib.Core.Path.{◌≡◌, refl}
use Rattle.packing.specs.declared.report.Report.TheVariants.{Rested}
use Rattle.lines.specs.Decimal.{spelt, decimal}
use Rattle.lines.specs.Lines.{field_line, report_line, refusal_line}

zero-text : decimal 0 ≡ 48 ∷ []
unfolding decimal spelt
zero-text = refl

nine-text : decimal 9 ≡ 57 ∷ []
unfolding decimal spelt
nine-text = refl

ten-text : decimal 10 ≡ 49 ∷ 48 ∷ []
unfolding decimal spelt
ten-text = refl

hundred-text : decimal 100 ≡ 49 ∷ 48 ∷ 48 ∷ []
unfolding decimal spelt
hundred-text = refl

highest-u32-text : decimal 4294967295 ≡ 52 ∷ 50 ∷ 57 ∷ 52 ∷ 57 ∷ 54 ∷ 55 ∷ 50 ∷ 57 ∷ 53 ∷ []
unfolding decimal spelt
highest-u32-text = refl

highest-u64-text : decimal 18446744073709551615
    ≡ 49 ∷ 56 ∷ 52 ∷ 52 ∷ 54 ∷ 55 ∷ 52 ∷ 52 ∷ 48 ∷ 55 ∷ 51 ∷ 55 ∷ 48 ∷ 57 ∷ 53 ∷ 53 ∷ 49 ∷ 54 ∷ 49 ∷ 53 ∷ []
unfolding decimal spelt
highest-u64-text = refl

-- "3 4 0 1 50 1 0 222 222 100"
report-text : report_line 3 (Rested true 50 1 222 222 100)
    ≡ 51 ∷ 32 ∷ 52 ∷ 32 ∷ 48 ∷ 32 ∷ 49 ∷ 32 ∷ 53 ∷ 48 ∷ 32 ∷ 49 ∷ 32 ∷ 48 ∷ 32 ∷ 50 ∷ 50 ∷ 50 ∷ 32 ∷ 50 ∷ 50 ∷ 50 ∷ 32 ∷ 49 ∷ 48 ∷ 48 ∷ 10 ∷ []
unfolding report_line field_line decimal spelt
report-text = refl

-- "0 refused 1"
refusal-text : refusal_line 0 1 ≡ 48 ∷ 32 ∷ 114 ∷ 101 ∷ 102 ∷ 117 ∷ 115 ∷ 101 ∷ 100 ∷ 32 ∷ 49 ∷ 10 ∷ []
unfolding refusal_line decimal spelt
refusal-text = refl
