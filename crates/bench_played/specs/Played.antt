-- A run of messages played one after the other into one lent room: what is measured. No rule of document 01 stands here.
use Rattle.std.specs.Prelude.{ℕ, zero, suc, ◌+◌, ◌*◌, Bool, cond, ◌&&◌, List, ◌++◌, ◌≡◌, leb, length, take, drop}
use Rattle.std.specs.Prelude.{Option, None, Some}
use Rattle.packing.specs.declared.setup.Setup.{Setup}
use Rattle.packing.specs.Codec.{unpack_of}
use Rattle.packing.specs.Setup.{setups}
use Rattle.packing.specs.Room.{room_size}
use Rattle.packing.specs.Report.{report_size}
use Rattle.packing.specs.Message.{message_size}
use Rattle.series.specs.declared.Series.{Series}
use Rattle.series.specs.Series.{new_series}
use Rattle.handler.specs.Handle.{Handled, handled_at}

-- a whole message stands at `at`, and behind `used` there is room for the reports of any message
abbrev pub goes_on : ℕ → ℕ → ℕ → ℕ → Bool
goes_on long at size used = leb (at + message_size) long && leb (used + room_size) size

-- where a message's reports end, that begin at `used`
abbrev pub end_of : ℕ → Handled → ℕ
end_of used h = used + report_size * h.answer.count

-- the room after a message: what stood before `used`, the reports, and every other byte as it was
abbrev pub marked : List ℕ → ℕ → Handled → List ℕ
marked out used h = take used out ++ h.room

-- the series, the end and the room after one message
pub record Turned (s : Series) (run : List ℕ) (at : ℕ) (out : List ℕ) (used : ℕ) (s' : Series) (used' : ℕ) (out' : List ℕ) : Type 0 where
  pub series : s' ≡ (handled_at s run at (drop used out)).answer.series
  pub end : used' ≡ end_of used (handled_at s run at (drop used out))
  pub room : out' ≡ marked out used (handled_at s run at (drop used out))

-- at most n messages from `at` on
unfoldable pub played_on : ℕ → Series → List ℕ → ℕ → List ℕ → ℕ → ℕ × List ℕ
played_on zero s run at out used = (used, out)
played_on (suc n) s run at out used =
    cond (goes_on (length run) at (length out) used)
    (played_on n (handled_at s run at (drop used out)).answer.series run (at + message_size) (marked out used (handled_at s run at (drop used out)))
    (end_of used (handled_at s run at (drop used out))))
    (used, out)

-- THE WHOLE RUN: it has no more messages than bytes
unfoldable pub played : Series → List ℕ → List ℕ → ℕ × List ℕ
played s run out = played_on (length run) s run 0 out 0

abbrev pub played_by : Option Setup → List ℕ → List ℕ → ℕ × List ℕ
played_by None run out = (0, out)
played_by (Some s) run out = played (new_series s) run out

abbrev pub played_from : List ℕ → List ℕ → List ℕ → ℕ × List ℕ
played_from setup run out = played_by (unpack_of setups setup) run out
