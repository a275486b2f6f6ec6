-- What is printed for one message: the same from every room, no longer than the longest answer, and put where there is room for that.
-- Assumes nothing.
use Prim.Native.Nat.{ℕ, zero, suc, ◌+◌, ◌≤◌}
use mathlib.Core.Bool.{Bool, true, false, cond}
use mathlib.Core.List.{List}
use Rattle.std.specs.Prelude.{Option}
use mathlib.Core.Path.{◌≡◌, refl, sym, ap, ◌∙◌, subst}
use native.Mathlib.Omega.{arith}
use borrow.Author.Tests.{le-leb, eq-eqb, ne_eqb}
use lib.Dec.{eqb}
use lib.ListN.{length, replicate, length-replicate}
use Rattle.packing.specs.declared.message.Event.{Event}
use Rattle.packing.specs.declared.report.Report.{Report}
use Rattle.packing.specs.Codec.{nothing, unpack_of}
use Rattle.packing.specs.Message.{message_size, messages}
use Rattle.packing.specs.Room.{read_back, room_size, most_reports}
use Rattle.book.specs.Shape.{entries_of}
use Rattle.series.specs.declared.Series.{Series}
use Rattle.series.specs.Series.{sound_series}
use Rattle.handler.specs.Handle.{Answered, Handled, in_room, refused, handled_as, handled}
use Rattle.handler.proofs.Refusals.{refusals-keep}
use Rattle.handler.proofs.Accepted.{accepted-sound}
use Rattle.handler.proofs.Demands.{handled-length}
use Rattle.handler.proofs.AnyRoom.{count-few, same_answer, same-reports}
use Rattle.why.proofs.AcceptLaws.{heard-of}
use Rattle.lines.specs.Lines.{refusal_line, report_lines, answer_text, lines_of}
use Rattle.lines.specs.Buffer.{TextPut, longest_answer, roomy, printed}
use Rattle.lines.proofs.BufferLaws.{printed-put}
use Rattle.board.specs.Board.{board_text}
use Rattle.transcript.specs.declared.View.{View}
use Rattle.transcript.specs.declared.View.TheVariants.{Reports, Book, Why}
use Rattle.transcript.specs.WhyLines.{why_lines, why_text, Passes, Answers}
use Rattle.transcript.specs.Transcript.{answered, text_of, message_text}

zeros-large : room_size ≤ length (replicate {A = ℕ} room_size 0)
zeros-large = omega (arith, length-replicate {A = ℕ} room_size 0)

-- a text that is made of a message's reports, or else the line of its refusal
abbrev pub text_by : (List (Option Report) → List ℕ) → ℕ → Handled → List ℕ
text_by f number h = cond (eqb h.answer.refusal 0) (f (read_back h.answer.count h.room)) (refusal_line number h.answer.refusal)

module _ (f : List (Option Report) → List ℕ) (number : ℕ) (h : Handled) where
  pub text-accepted : h.answer.refusal ≡ 0 → text_by f number h ≡ f (read_back h.answer.count h.room)
  text-accepted e =
      ap (λ (b : Bool). cond b (f (read_back h.answer.count h.room)) (refusal_line number h.answer.refusal)) (eq-eqb h.answer.refusal 0 e)

  pub text-refused : (h.answer.refusal ≡ 0 → ⊥) → text_by f number h ≡ refusal_line number h.answer.refusal
  text-refused e =
      ap (λ (b : Bool). cond b (f (read_back h.answer.count h.room)) (refusal_line number h.answer.refusal)) (ne_eqb h.answer.refusal 0 e)

module _ (s : Series) (message room : List ℕ) (large : room_size ≤ length room) where
  -- THE ANSWER IS THAT OF A ROOM OF ZEROS
  pub any-answer : (handled s message room).answer ≡ (answered s message).answer
  unfolding answered
  any-answer = same_answer s message room (replicate room_size 0) large zeros-large

  same-refusal : (handled s message room).answer.refusal ≡ (answered s message).answer.refusal
  same-refusal = ap (λ (a : Answered). a.refusal) any-answer

  any-text : (f : List (Option Report) → List ℕ) (number : ℕ) → text_by f number (handled s message room) ≡ text_by f number (answered s message)
  unfolding answered
  any-text f number = go (handled s message room).answer.refusal refl
    where
      go : (n : ℕ) → (handled s message room).answer.refusal ≡ n → text_by f number (handled s message room) ≡ text_by f number (answered s message)
      go zero h =
          text-accepted f number (handled s message room) h
          ∙ ap f (same-reports s message room (replicate room_size 0) large zeros-large h)
          ∙ sym (text-accepted f number (answered s message) (sym same-refusal ∙ h))
      go (suc n) h =
          text-refused f number (handled s message room) (λ z. omega (arith, h, z))
          ∙ ap (refusal_line number) same-refusal
          ∙ sym (text-refused f number (answered s message) (λ z. omega (arith, h, z, same-refusal)))

  -- THEOREM. WHAT IS PRINTED FOR A MESSAGE DOES NOT DEPEND ON THE ROOM that its reports are written to, where that has at least 31,920 bytes: what it held
  -- before, such as the reports of the message before, is not printed
  pub any-room : (view : View) (number : ℕ) → text_of view number s (unpack_of messages message) (handled s message room) ≡ message_text view number s message
  unfolding answer_text why_text
  any-room Reports number = any-text (report_lines number) number
  any-room Book number = ap (λ (a : Answered). board_text number (entries_of a.series.book)) any-answer
  any-room Why number = any-text (why_lines number s (unpack_of messages message) 0) number

-- no message has more lines than the longest answer
pub lines-few : (refusal count : ℕ) → count ≤ most_reports → lines_of refusal count ≤ most_reports
lines-few refusal count h = by (eqb refusal 0)
  where
    by : (b : Bool) → cond b count 1 ≤ most_reports
    by true = h
    by false = omega arith

-- so its text is put wherever there is room for the longest, and a text of fewer lines too
pub printed-within : {out text after : List ℕ} {at end : ℕ} (lines : ℕ) → lines ≤ most_reports → at + longest_answer ≤ length out
    → end ≡ (printed out at lines text).0 → after ≡ (printed out at lines text).1 → TextPut out at text after end
unfolding roomy
printed-within {out} lines few space e a = printed-put lines (le-leb _ (length out) (omega arith)) e a

-- what is answered to what a message unpacks to is answered to the message, and its text is the message's
module _ (s : Series) (message room : List ℕ) {read : Option Event} (is : read ≡ unpack_of messages message) {r : Answered} {room' : List ℕ}
    (h : in_room r room' ≡ handled_as s read room) where
  answer-is : in_room r room' ≡ handled s message room
  unfolding handled
  answer-is = h ∙ ap (λ (o : Option Event). handled_as s o room) is

  pub answers : Answers s read r
  answers = record { passes = passing; few = rw (sym answer-is) at (count-few s message room) }
    where
      passing : r.refusal ≡ 0 → Passes s read
      passing z =
          let x = heard-of s read room (ap (λ (a : Handled). a.answer.refusal) (sym h) ∙ z) in
          subst (Passes s) (sym x.read) x.accepts

  module _ (large : room_size ≤ length room) where
    pub series-told : r.series ≡ (answered s message).answer.series
    series-told =
        ap (λ (a : Handled). a.answer.series) answer-is ∙ ap (λ (a : Answered). a.series) (any-answer s message room large)

    pub text-told : (view : View) (number : ℕ) {out after : List ℕ} {at end : ℕ}
        → TextPut out at (text_of view number s read (in_room r room')) after end → TextPut out at (message_text view number s message) after end
    text-told view number p = rw (sym (any-room s message room large view number), sym answer-is, sym is) p

-- "a short last one included": WHAT IS NO MESSAGE'S LENGTH IS REFUSED as 1, in a sound series, be it the reports that are to be seen or their reasons
pub short-refused : (number : ℕ) (s : Series) (message : List ℕ) → sound_series s ≡ true → (length message ≡ message_size → ⊥)
    → (message_text Reports number s message ≡ refusal_line number nothing) × (message_text Why number s message ≡ refusal_line number nothing)
unfolding answered answer_text why_text
short-refused number s message sound h = (told (report_lines number), told (why_lines number s (unpack_of messages message) 0))
  where
    told : (f : List (Option Report) → List ℕ) → text_by f number (answered s message) ≡ refusal_line number nothing
    told f =
        ap (text_by f number) (handled-length s message (replicate room_size 0) zeros-large sound h)
        ∙ text-refused f number (refused nothing s (replicate room_size 0)) (λ z. omega (arith, z))

-- A REFUSED MESSAGE LEAVES THE BOOK TO BE SEEN as it stood
pub refused-shows : (number : ℕ) (s : Series) (message : List ℕ) → ((answered s message).answer.refusal ≡ 0 → ⊥)
    → message_text Book number s message ≡ board_text number (entries_of s.book)
unfolding answered
refused-shows number s message h =
    ap (λ (t : Series). board_text number (entries_of t.book)) (refusals-keep s message (replicate room_size 0) h).series

-- and the series stays sound from message to message
pub answered-sound : (s : Series) (message : List ℕ) → sound_series s ≡ true → sound_series (answered s message).answer.series ≡ true
unfolding answered
answered-sound s message sound = go (handled s message (replicate room_size 0)).answer.refusal refl
  where
    go : (n : ℕ) → (handled s message (replicate room_size 0)).answer.refusal ≡ n
        → sound_series (handled s message (replicate room_size 0)).answer.series ≡ true
    go zero h = accepted-sound s message (replicate room_size 0) h
    go (suc n) h = ap sound_series (refusals-keep s message (replicate room_size 0) (λ z. omega (arith, h, z))).series ∙ sound
