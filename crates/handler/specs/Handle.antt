-- THE HANDLER: the answer, and every byte of the lent room, for every series, message and room.
-- Assumes nothing.
use Rattle.std.specs.Prelude.{ℕ, Bool, cond, not, List, eqb, ltb, length, Result, Ok, Err}
use Rattle.std.specs.Prelude.{Option, None, Some}
use Rattle.kinds.specs.declared.refusal.Refusal.{Refusal}
use Rattle.kinds.specs.Refusals.{number_of}
use Rattle.packing.specs.declared.message.Event.{Event}
use Rattle.packing.specs.Codec.{nothing, unpack_of}
use Rattle.packing.specs.Message.{messages, message_at}
use Rattle.packing.specs.Room.{written, room_size}
use Rattle.book.specs.Shape.{entries_of}
use Rattle.series.specs.declared.Series.{Series}
use Rattle.series.specs.Series.{sound_series}
use Rattle.handler.specs.declared.Ask.{Ask}
use Rattle.handler.specs.declared.Answer.{Answer}
use Rattle.handler.specs.Asked.{ask_of}
use Rattle.handler.specs.Refuse.{refusal_of}
use Rattle.handler.specs.Accept.{done, series_after}

-- what is answered: the refusal's number, 0 for none; the count; and the series afterwards
pub record Answered : Type 0 where
  pub refusal : ℕ
  pub count : ℕ
  pub series : Series

-- what an accepted message is answered
abbrev pub answered : Answer → Answered
answered r = record { refusal = 0; count = r.count; series = r.series }

-- "Each returns its number and count 0 and changes nothing": what a message is answered that was put to this series
abbrev pub answer_of : Series → Result Answer Refusal → Answered
answer_of s (Ok r) = answered r
answer_of s (Err why) = record { refusal = number_of why; count = 0; series = s }

-- an answer, with the room as it then is
pub record Handled : Type 0 where
  pub answer : Answered
  pub room : List ℕ

abbrev pub in_room : Answered → List ℕ → Handled
in_room r room = record { answer = r; room = room }

-- "Each returns its number and count 0 and changes nothing."
abbrev pub refused : ℕ → Series → List ℕ → Handled
refused why s room = record { answer = record { refusal = why; count = 0; series = s }; room = room }

-- an accepted message writes its counted reports at the front of the room and no byte beyond
abbrev pub accepted : Series → Ask → List ℕ → Handled
accepted s a room = record {
  answer = record { refusal = 0; count = length (done s.terms a (entries_of s.book)).records; series = series_after s a };
  room = written room 0 (done s.terms a (entries_of s.book)).records;
}

-- the refusal, if there is one, and else what comes next
abbrev pub refused_or : ℕ → Series → List ℕ → Handled → Handled
refused_or why s room next = cond (eqb why 0) next (refused why s room)

abbrev pub judged : Series → Ask → List ℕ → ℕ → Handled
judged s a room why = refused_or why s room (accepted s a room)

-- "A message that unpacks to no event stops there with refusal 1."
abbrev pub heard : Series → List ℕ → Option Event → Handled
heard s room None = refused nothing s room
heard s room (Some e) = judged s (ask_of e) room (refusal_of s (ask_of e))

-- the first of two refusals whose test holds; 0, if neither does
abbrev pub first_of : Bool → ℕ → Bool → ℕ → ℕ
first_of one number other next = cond one number (cond other next 0)

-- 10: "report room under 31,920 bytes (2,280 reports of 14)"; 11: "state handed in is unsound"
abbrev pub before_reading : ℕ → Bool → ℕ
before_reading space sound = first_of (ltb space room_size) 10 (not sound) 11

-- what is answered to what a message unpacks to, which is looked at once 10 and 11 are tested
unfoldable pub handled_as : Series → Option Event → List ℕ → Handled
handled_as s event room = refused_or (before_reading (length room) (sound_series s)) s room (heard s room event)

-- WHAT IS ANSWERED, for every series, message and room
unfoldable pub handled : Series → List ℕ → List ℕ → Handled
handled s message room = handled_as s (unpack_of messages message) room

-- "A message in a long run is judged where it stands in the run"
abbrev pub handled_at : Series → List ℕ → ℕ → List ℕ → Handled
handled_at s run at room = handled s (message_at run at) room
