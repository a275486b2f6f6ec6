-- WHY, AS LINES: document 02, 1, as the session program prints it. For each report of an accepted message, places counted from 0, `m place rule first second`,
-- or `m place none` where there is no reason to give; for a refused one `m refused r`.
-- Assumes nothing.
use Rattle.std.specs.Prelude.{ℕ, ◌+◌, ◌≤◌, cond, List, [], ◌∷◌, ◌++◌, ◌≡◌, eqb, Result, Ok, Err, Option, Some, None}
use Rattle.packing.specs.declared.message.Event.{Event}
use Rattle.packing.specs.declared.report.Report.{Report}
use Rattle.packing.specs.Room.{read_back, most_reports}
use Rattle.series.specs.declared.Series.{Series}
use Rattle.handler.specs.Asked.{ask_of}
use Rattle.handler.specs.Acts.{Accepted}
use Rattle.handler.specs.Handle.{Answered, Handled}
use Rattle.why.specs.Reasons.{Why}
use Rattle.why.specs.Why.{why_of}
use Rattle.lines.specs.Decimal.{decimal}
use Rattle.lines.specs.Lines.{space, line_end, field_line, refusal_line}

-- ` none` and the line's end
abbrev pub none_word : List ℕ
none_word = space ∷ 110 ∷ 111 ∷ 110 ∷ 101 ∷ line_end ∷ []

-- "`m place none`"
unfoldable pub none_line : ℕ → ℕ → List ℕ
none_line number place = decimal number ++ (space ∷ decimal place) ++ none_word

-- what is told of the report at a place, as a line
abbrev pub why_line : ℕ → ℕ → Result Why ℕ → List ℕ
why_line number place (Ok (Some r)) = field_line number (place ∷ r.rule ∷ r.first ∷ r.second ∷ [])
why_line number place (Ok None) = none_line number place
why_line number place (Err why) = refusal_line number why

-- of reports that stand one behind the other, the first at a place; they are those of what a message unpacks to, put to this series
abbrev pub why_lines : ℕ → Series → Option Event → ℕ → List (Option Report) → List ℕ
why_lines number s event place [] = []
why_lines number s event place (r ∷ rs) = why_line number place (Ok (why_of s event r)) ++ why_lines number s event (place + 1) rs

-- WHAT IS PRINTED for message `number`, by the series that it was put to, what it unpacks to and its answer: the line of its refusal; or, where it has none
-- (0), a line for each report
unfoldable pub why_text : ℕ → Series → Option Event → Handled → List ℕ
why_text number s event h =
    cond (eqb h.answer.refusal 0) (why_lines number s event 0 (read_back h.answer.count h.room)) (refusal_line number h.answer.refusal)

-- ---- words for contracts ----

-- nothing refuses what a message unpacks to
abbrev pub Passes : Series → Option Event → Type 0
Passes s None = ⊥
Passes s (Some e) = Accepted s (ask_of e)

-- what is known of its answer: where that is no refusal nothing refuses it, and there are no more reports than a room has places
pub record Answers (s : Series) (event : Option Event) (r : Answered) : Type 0 where
  pub passes : r.refusal ≡ 0 → Passes s event
  pub few : r.count ≤ most_reports
