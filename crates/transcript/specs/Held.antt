-- Telling what is held of an input, as far as there is room for its lines.
-- No rule of document 01 stands here, only words for contracts.
use Rattle.std.specs.Prelude.{ℕ, zero, suc, ◌+◌, ◌-◌, ◌≤◌, min, Bool, cond, ◌&&◌, List, [], ◌++◌, ◌≡◌, leb, ltb, length, Result, Ok, Err}
use Rattle.kinds.specs.declared.refusal.Refusal.{Refusal}
use Rattle.kinds.specs.Refusals.{number_of}
use Rattle.packing.specs.Setup.{setup_size}
use Rattle.packing.specs.Message.{message_size, message_at}
use Rattle.series.specs.declared.Series.{Series}
use Rattle.series.specs.Series.{opened}
use Rattle.lines.specs.Buffer.{TextPut, longest_answer, printed}
use Rattle.transcript.specs.declared.Begun.{Begun}
use Rattle.transcript.specs.declared.Told.{Told}
use Rattle.transcript.specs.declared.View.{View}
use Rattle.transcript.specs.Transcript.{answered, message_text, setup_in, setup_text}

-- ---- setup ----

-- how much is printed, and the buffer afterwards: one line at the most
abbrev pub setup_printed : List ℕ → List ℕ → ℕ × List ℕ
setup_printed held out = printed out 0 1 (setup_text (setup_in held))

-- the number to print for a refusal, 0 for none
abbrev pub refusal_told : Result Series Refusal → ℕ
refusal_told (Ok s) = 0
refusal_told (Err why) = number_of why

-- WHAT IS HELD, BEGUN: the series or the refusal, where the first message stands, and how much was printed
abbrev pub begun : List ℕ → List ℕ → Begun
begun held out = record {
  series = opened (setup_in held);
  at = min (length held) setup_size;
  used = (setup_printed held out).0;
}

-- ---- messages ----

-- numbers are given to fewer messages than this: no input is as long
abbrev pub most_messages : ℕ
most_messages = 1000000000000000000

-- whether so many bytes hold a message that can be answered now: a short one only where the input has ended
abbrev pub holds_next : Bool → ℕ → Bool
holds_next ended left = leb (cond ended 1 message_size) left

-- how far an input is told: the series, the next message's number and where it stands, and what was printed
pub record Telling : Type 0 where
  pub series : Series
  pub number : ℕ
  pub at : ℕ
  pub text : List ℕ

-- there is a message, room for the longest answer behind what is printed, and a number
abbrev pub goes_on : Bool → ℕ → ℕ → ℕ → ℕ → Bool
goes_on ended left size used number = holds_next ended left && (leb (used + longest_answer) size && ltb number most_messages)

-- one message more; behind a short one all is told
abbrev pub next : View → List ℕ → Telling → Telling
next view held t = record {
  series = (answered t.series (message_at held t.at)).answer.series;
  number = t.number + 1;
  at = min (t.at + message_size) (length held);
  text = t.text ++ message_text view t.number t.series (message_at held t.at);
}

-- at most so many messages more
unfoldable pub tell_on : View → ℕ → Bool → List ℕ → ℕ → Telling → Telling
tell_on view zero ended held size t = t
tell_on view (suc turns) ended held size t =
    cond (goes_on ended (length held - t.at) size (length t.text) t.number) (tell_on view turns ended held size (next view held t)) t

-- WHAT IS HELD, TOLD from its first byte on, as far as it goes into a buffer of so many bytes: there are no more messages than bytes
unfoldable pub held_told : View → Series → ℕ → List ℕ → Bool → ℕ → Telling
held_told view s number held ended size =
    tell_on view (length held) ended held size (record { series = s; number = number; at = 0; text = [] })

-- one message told: the same in Rattle's type, with its text put behind what was printed
pub record Turned (view : View) (held : List ℕ) (t : Told) (out : List ℕ) (t' : Told) (out' : List ℕ) : Type 0 where
  pub series : t'.series ≡ (answered t.series (message_at held t.at)).answer.series
  pub number : t'.number ≡ t.number + 1
  pub at : t'.at ≡ min (t.at + message_size) (length held)
  pub put : TextPut out t.used (message_text view t.number t.series (message_at held t.at)) out' t'.used
  pub fits : t'.used ≤ length out'

-- the whole in Rattle's type
abbrev pub told_by : Telling → Told
told_by t = record { series = t.series; number = t.number; at = t.at; used = length t.text }
