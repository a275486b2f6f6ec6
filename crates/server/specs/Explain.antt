-- WHY, for a caller who keeps the series in a buffer of 1,564 bytes: `explained` on the unpacked series, told in numbers.
-- Assumes nothing.
use Rattle.std.specs.Prelude.{ℕ, cond, List, ltb, length}
use Rattle.std.specs.Prelude.{Option, None, Some}
use Rattle.packing.specs.declared.message.Event.{Event}
use Rattle.packing.specs.Codec.{unpack_of}
use Rattle.packing.specs.Message.{messages}
use Rattle.packing.specs.Room.{room_size}
use Rattle.series.specs.declared.Series.{Series}
use Rattle.series_buffer.specs.State.{unpack_series}
use Rattle.why.specs.Why.{Numbers, numbers_of, Explained, unexplained, explained_as}

-- the number answered with the three that are written, and what the lent room then holds. The buffer is only read
pub record Reply : Type 0 where
  pub numbers : Numbers
  pub room : List ℕ

abbrev pub replied : ℕ → ℕ → ℕ → ℕ → List ℕ → Reply
replied refusal rule first second room =
    record { numbers = record { refusal = refusal; rule = rule; first = first; second = second }; room = room }

abbrev pub in_numbers : Explained → Reply
in_numbers x = record { numbers = numbers_of x.why; room = x.room }

abbrev pub explain_in : Option Event → ℕ → List ℕ → Option Series → Explained
explain_in event place room None = unexplained 11 room
explain_in event place room (Some s) = explained_as s event place room

-- ONE REPORT OF ONE MESSAGE, by what that unpacks to. 10: "report room under 31,920 bytes"; 11: the buffer holds no series, or an unsound one; then the
-- handler's refusals, in its order, and last 12
unfoldable pub explain_held : List ℕ → Option Event → ℕ → List ℕ → Explained
explain_held state event place room = cond (ltb (length room) room_size) (unexplained 10 room) (explain_in event place room (unpack_series state))

-- in numbers: rule 0 for "no reason to give"; on a refusal rule and figures are 0
abbrev pub explain_as : List ℕ → Option Event → ℕ → List ℕ → Reply
explain_as state event place room = in_numbers (explain_held state event place room)

unfoldable pub explain : List ℕ → List ℕ → ℕ → List ℕ → Reply
explain state message place room = explain_as state (unpack_of messages message) place room
