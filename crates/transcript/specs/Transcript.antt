-- WHAT THE SESSION PROGRAM PRINTS for a whole input: document 01, "Class examples".
-- Assumes nothing.
use Rattle.std.specs.Prelude.{ℕ, zero, suc, ◌+◌, List, [], ◌∷◌, ◌++◌, length, take, drop, replicate}
use Rattle.std.specs.Prelude.{Option, None, Some}
use Rattle.packing.specs.declared.message.Event.{Event}
use Rattle.packing.specs.declared.setup.Setup.{Setup}
use Rattle.packing.specs.Codec.{nothing, unpack_of}
use Rattle.packing.specs.Setup.{setups, setup_size}
use Rattle.packing.specs.Message.{messages, message_size}
use Rattle.packing.specs.Room.{room_size}
use Rattle.book.specs.Shape.{entries_of}
use Rattle.series.specs.declared.Series.{Series}
use Rattle.series.specs.Series.{new_series}
use Rattle.handler.specs.Handle.{Handled, handled}
use Rattle.lines.specs.Lines.{refusal_line, answer_text}
use Rattle.board.specs.Board.{board_text}
use Rattle.transcript.specs.declared.View.{View}
use Rattle.transcript.specs.declared.View.TheVariants.{Reports, Book, Why}
use Rattle.transcript.specs.WhyLines.{why_text}

-- ---- one message ----

-- what is answered to a message, with a room of zeros for its reports. (What the room held before is not seen in what is printed: `any-room`)
unfoldable pub answered : Series → List ℕ → Handled
answered s message = handled s message (replicate room_size 0)

-- what is printed for message `number`, by the series that it was put to, what it unpacks to and its answer: a line for each report, or the line of its
-- refusal; or, where the book is to be seen, a line for each entry that rests in the series that is left; or why each report says what it says. (The book is
-- beyond document 01. A refusal leaves the series as it stood, and so the book)
abbrev pub text_of : View → ℕ → Series → Option Event → Handled → List ℕ
text_of Reports number s event h = answer_text number h.answer.refusal h.answer.count h.room
text_of Book number s event h = board_text number (entries_of h.answer.series.book)
text_of Why number s event h = why_text number s event h

-- the same of a message
abbrev pub message_text : View → ℕ → Series → List ℕ → List ℕ
message_text view number s message = text_of view number s (unpack_of messages message) (answered s message)

-- ---- the messages of an input ----

-- "A message is 11 bytes", "a short last one included": as many bytes as a message has, or the fewer that are left, and then what stands behind them.
-- (`turns` counts down, so that it ends)
unfoldable pub messages_in : ℕ → List ℕ → List (List ℕ)
messages_in zero bytes = []
messages_in (suc turns) [] = []
messages_in (suc turns) (b ∷ bytes) = take message_size (b ∷ bytes) ∷ messages_in turns (drop message_size (b ∷ bytes))

-- there are no more messages than bytes
abbrev pub messages_of : List ℕ → List (List ℕ)
messages_of bytes = messages_in (length bytes) bytes

-- ---- the whole ----

-- the messages' lines, in order, each once; the series that one message leaves is the one that the next finds
unfoldable pub lines_for : View → ℕ → Series → List (List ℕ) → List ℕ
lines_for view number s [] = []
lines_for view number s (message ∷ rest) =
    message_text view number s message ++ lines_for view (number + 1) (answered s message).answer.series rest

abbrev pub lines_from : View → ℕ → Series → List ℕ → List ℕ
lines_from view number s bytes = lines_for view number s (messages_of bytes)

-- the setup that stands in front of an input, and what is printed for it: "a refused setup prints `0 refused 1`"
abbrev pub setup_in : List ℕ → Option Setup
setup_in input = unpack_of setups (take setup_size input)

abbrev pub setup_text : Option Setup → List ℕ
setup_text None = refusal_line 0 nothing
setup_text (Some s) = []

-- "and ends"; the messages behind any other are numbered from 1
abbrev pub printed_for : View → Option Setup → List ℕ → List ℕ
printed_for view None bytes = setup_text None
printed_for view (Some setup) bytes = lines_from view 1 (new_series setup) bytes

-- THE WHOLE: "The session program reads setup, then messages, from standard input."
unfoldable pub transcript : View → List ℕ → List ℕ
transcript view input = printed_for view (setup_in input) (drop setup_size input)
