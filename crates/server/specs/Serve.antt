-- The handler for a caller who keeps the series in a buffer of 1,564 bytes: `handled` on the unpacked series, packed again.
-- Assumes nothing.
use Rattle.std.specs.Prelude.{ℕ, cond, List, eqb, ltb, length}
use Rattle.std.specs.Prelude.{Option, None, Some}
use Rattle.packing.specs.declared.setup.Setup.{Setup}
use Rattle.packing.specs.declared.message.Event.{Event}
use Rattle.packing.specs.Codec.{nothing, unpack_of}
use Rattle.packing.specs.Message.{messages}
use Rattle.packing.specs.Room.{room_size}
use Rattle.series.specs.declared.Series.{Series}
use Rattle.series.specs.Series.{new_series}
use Rattle.handler.specs.Handle.{Handled, handled_as}
use Rattle.series_buffer.specs.State.{unpack_series, series_bytes, pack_series, state_size}

-- the number answered, and what the lent buffers then hold
pub record SetUp : Type 0 where
  pub refusal : ℕ
  pub state : List ℕ

-- A NEW SERIES IN THE BUFFER. First 1: "Setup of other length or values is refused (1, no series)"; then 11, where the buffer has not
-- 1,564 bytes and so cannot hold a series
abbrev pub set_up : List ℕ → Option Setup → SetUp
set_up state None = record { refusal = nothing; state = state }
set_up state (Some s) =
    cond (eqb (length state) state_size) (record { refusal = 0; state = series_bytes (new_series s) }) (record { refusal = 11; state = state })

pub record Served : Type 0 where
  pub refusal : ℕ
  pub count : ℕ
  pub state : List ℕ
  pub room : List ℕ

abbrev pub served : ℕ → ℕ → List ℕ → List ℕ → Served
served refusal count state room = record { refusal = refusal; count = count; state = state; room = room }

-- "Each returns its number and count 0 and changes nothing."
abbrev pub unserved : ℕ → List ℕ → List ℕ → Served
unserved why state room = served why 0 state room

-- the buffer with a series in it; as it was, where that does not pack
abbrev pub holding : List ℕ → Option (List ℕ) → List ℕ
holding state None = state
holding state (Some bytes) = bytes

abbrev pub packed_again : List ℕ → Handled → Served
packed_again state h = served h.answer.refusal h.answer.count (holding state (pack_series h.answer.series)) h.room

abbrev pub serve_in : List ℕ → Option Event → List ℕ → Option Series → Served
serve_in state event room None = unserved 11 state room
serve_in state event room (Some s) = packed_again state (handled_as s event room)

-- ONE MESSAGE, by what it unpacks to. 10: "report room under 31,920 bytes"; 11: the buffer holds no series, or an unsound one; then the handler's refusals, in
-- its order
unfoldable pub serve_as : List ℕ → Option Event → List ℕ → Served
serve_as state event room = cond (ltb (length room) room_size) (unserved 10 state room) (serve_in state event room (unpack_series state))

unfoldable pub serve : List ℕ → List ℕ → List ℕ → Served
serve state message room = serve_as state (unpack_of messages message) room
