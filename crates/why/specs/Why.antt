-- WHY: document 02, 1. "Add a tool that takes the state before, the message and one report's place, and gives the rule's number with the two figures compared".
-- Assumes nothing.
use Rattle.std.specs.Prelude.{ℕ, cond, not, List, [], eqb, leb, Result, Ok, Err, Option, Some, None}
use Rattle.prices.specs.declared.Figures.{Figures}
use Rattle.prices.specs.Test.{Test, figures_of}
use Rattle.kinds.specs.Kinds.{enters}
use Rattle.kinds.specs.declared.refusal.Refusal.{Refusal}
use Rattle.kinds.specs.Refusals.{number_of}
use Rattle.packing.specs.declared.message.Event.{Event}
use Rattle.packing.specs.declared.report.Report.{Report}
use Rattle.packing.specs.declared.report.Report.TheVariants.{Noted, Rejected, Traded, Rested, Repriced, Cancelled}
use Rattle.packing.specs.Codec.{unpack_of}
use Rattle.packing.specs.Message.{messages}
use Rattle.packing.specs.Room.{report_at}
use Rattle.book.specs.declared.Entry.{Entry}
use Rattle.book.specs.Shape.{entries_of, WellFormed}
use Rattle.arrival.specs.declared.Facing.{Facing}
use Rattle.arrival.specs.Arrive.{book_left, tests_put}
use Rattle.arrival.specs.Asks.{Faces}
use Rattle.series.specs.declared.Series.{Series}
use Rattle.handler.specs.declared.Ask.{Ask}
use Rattle.handler.specs.Asked.{ask_of}
use Rattle.handler.specs.Accept.{comer_of}
use Rattle.handler.specs.Handle.{Answered, Handled, first_of, handled_as}
use Rattle.why.specs.Reasons.{Why}

-- ---- what is told, in numbers ----

-- the refusal (0 for none), the rule (0 for "no reason to give") and the two figures
pub record Numbers : Type 0 where
  pub refusal : ℕ
  pub rule : ℕ
  pub first : ℕ
  pub second : ℕ

-- the numbers of each case
abbrev pub numbers_of : Result Why ℕ → Numbers
numbers_of (Ok (Some r)) = record { refusal = 0; rule = r.rule; first = r.first; second = r.second }
numbers_of (Ok None) = record { refusal = 0; rule = 0; first = 0; second = 0 }
numbers_of (Err why) = record { refusal = why; rule = 0; first = 0; second = 0 }

-- what is told, with a refusal by its number
abbrev pub told : Result Why Refusal → Result Why ℕ
told (Ok reason) = Ok reason
told (Err why) = Err (number_of why)

-- ---- one report ----

-- the tests put to the quote or order that a message enters, all of them in the book that the message found, as to one that is rejected; none to a message
-- that enters nothing
abbrev pub found_tests : Series → Ask → List Test
found_tests s a = cond (enters a.kind) (tests_put s.terms (comer_of s a) (entries_of s.book) (entries_of s.book)) []

-- those put to one that is not rejected: price protection in the book that the message found, the others in the book that its trades left, with the replaced
-- quote gone
abbrev pub left_tests : Series → Ask → List Test
left_tests s a =
    cond (enters a.kind)
    (tests_put s.terms (comer_of s a) (entries_of s.book) (book_left s.terms (comer_of s a) (entries_of s.book))) []

-- "the rule's number with the two figures compared"
abbrev pub given : ℕ → Figures → Why
given rule f = Some (record { rule = rule; first = f.first; second = f.second })

-- WHY A REPORT OF A MESSAGE SAYS WHAT IT SAYS. "Reasons 27 to 31 compare no prices and give two zeros": no test has their numbers (`figures_of`). "A
-- report that is neither rejected nor cancelled gets 'no reason to give'": none.
abbrev pub reason_for : Series → Ask → Report → Why
reason_for s a Noted = None
reason_for s a (Rejected why sell party number limit quantity) = given why (figures_of why (found_tests s a))
reason_for s a (Traded sell party number other price quantity) = None
reason_for s a (Rested sell party number display working quantity) = None
reason_for s a (Repriced sell party number display working quantity) = None
reason_for s a (Cancelled why sell party number limit quantity) = given why (figures_of why (left_tests s a))

-- of what a message and a place of the room unpack to
abbrev pub why_of : Series → Option Event → Option Report → Why
why_of s None report = None
why_of s (Some e) None = None
why_of s (Some e) (Some r) = reason_for s (ask_of e) r

-- ---- the tool ----

-- what is told, with the lent room as it then is
pub record Explained : Type 0 where
  pub why : Result Why ℕ
  pub room : List ℕ

abbrev pub in_lent : Result Why ℕ → List ℕ → Explained
in_lent w room = record { why = w; room = room }

-- a refusal leaves the room as it stood
abbrev pub unexplained : ℕ → List ℕ → Explained
unexplained why room = in_lent (Err why) room

-- "Refusals: 12, place at or beyond the count, tested after the message's own refusals"; 0, if there is none
abbrev pub refusal_at : Answered → ℕ → ℕ
refusal_at r place = first_of (not (eqb r.refusal 0)) r.refusal (leb r.count place) 12

-- where nothing is refused the room holds the message's reports
abbrev pub explained_by : Series → Option Event → ℕ → List ℕ → Handled → Explained
explained_by s event place room h =
    cond (eqb (refusal_at h.answer place) 0) (in_lent (Ok (why_of s event (report_at h.room place))) h.room) (unexplained (refusal_at h.answer place) room)

-- what is told of what a message unpacks to, for every series, place and room
unfoldable pub explained_as : Series → Option Event → ℕ → List ℕ → Explained
explained_as s event place room = explained_by s event place room (handled_as s event room)

-- WHAT IS TOLD, for every series, message, place and room
unfoldable pub explained : Series → List ℕ → ℕ → List ℕ → Explained
explained s message place room = explained_as s (unpack_of messages message) place room

-- ---- words for contracts ----

-- what an entry faces in the book of a series, which is well-formed
pub record FacedIn (s : Series) (e : Entry) (f : Facing) : Type 0 where
  pub well : WellFormed s.book
  pub faces : Faces s.terms e (entries_of s.book) f
