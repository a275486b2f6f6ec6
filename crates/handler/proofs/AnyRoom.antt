-- THE LENT ROOM: how many reports it is asked to hold, and that what it held before is not seen in the answer, nor in the reports that are read back from it.
-- Assumes nothing.
use Prim.Native.Nat.{ℕ, zero, suc, ◌+◌, ◌-◌, ◌≤◌}
use mathlib.Core.Path.{◌≡◌, refl, sym, ap, ◌∙◌}
use mathlib.Core.Bool.{Bool, true, false, cond, not}
use mathlib.Core.List.{List}
use Rattle.std.specs.Prelude.{Option, None, Some}
use native.Mathlib.Omega.{arith}
use lib.Dec.{eqb, leb}
use lib.ListN.{length}
use borrow.Author.Tests.{le-ltb, le-leb, lt-leb, leb-true, leb-false}
use Rattle.packing.specs.declared.message.Event.{Event}
use Rattle.packing.specs.Codec.{unpack_of}
use Rattle.packing.specs.Message.{messages}
use Rattle.packing.specs.Room.{read_back, room_size, most_reports}
use Rattle.series.specs.declared.Series.{Series}
use Rattle.series.specs.Series.{sound_series}
use Rattle.handler.specs.Asked.{ask_of}
use Rattle.handler.specs.Refuse.{refusal_of}
use Rattle.handler.specs.Handle.{Answered, first_of, refused, refused_or, accepted, heard, handled_as, handled}
use Rattle.handler.proofs.Refusals.{refusals-keep}
use Rattle.handler.proofs.Demands.{reports-told, room-enough}

-- NO MESSAGE HAS MORE THAN 2,280 REPORTS, refused or not
pub count-few : (s : Series) (message room : List ℕ) → (handled s message room).answer.count ≤ most_reports
count-few s message room = go (handled s message room).answer.refusal refl
  where
    go : (n : ℕ) → (handled s message room).answer.refusal ≡ n → (handled s message room).answer.count ≤ most_reports
    go zero h = room-enough s message room h
    go (suc n) h = omega (arith, (refusals-keep s message room (λ z. omega (arith, h, z))).count)

module _ (s : Series) (message one other : List ℕ) (large : room_size ≤ length one) (also : room_size ≤ length other) where
  -- WHAT IS ANSWERED: the refusal, the count and the series are the same, whatever the room holds and however long it is
  pub same_answer : (handled s message one).answer ≡ (handled s message other).answer
  unfolding handled handled_as
  same_answer = rw (le-ltb (length one) room_size large, le-ltb (length other) room_size also) (by (sound_series s) (unpack_of messages message))
    where
      judge : (e : Event) (b : Bool) → (cond b (accepted s (ask_of e) one) (refused (refusal_of s (ask_of e)) s one)).answer
          ≡ (cond b (accepted s (ask_of e) other) (refused (refusal_of s (ask_of e)) s other)).answer
      judge e true = refl
      judge e false = refl

      by : (b : Bool) (u : Option Event) → (refused_or (first_of false 10 (not b) 11) s one (heard s one u)).answer
          ≡ (refused_or (first_of false 10 (not b) 11) s other (heard s other u)).answer
      by false u = refl
      by true None = refl
      by true (Some e) = judge e (eqb (refusal_of s (ask_of e)) 0)

  -- AND SO ARE THE REPORTS of an accepted message, read back from the room
  pub same-reports : (handled s message one).answer.refusal ≡ 0
      → read_back (handled s message one).answer.count (handled s message one).room
      ≡ read_back (handled s message other).answer.count (handled s message other).room
  same-reports h = reports-told s message one h ∙ sym (reports-told s message other (sym (ap (λ (a : Answered). a.refusal) same_answer) ∙ h))

-- whether so many bytes are left behind `used`, as code asks it and as definitions do
pub room-left : (more size used : ℕ) → used ≤ size → leb more (size - used) ≡ leb (used + more) size
room-left more size used h = by (leb (used + more) size) refl
  where
    by : (b : Bool) → leb (used + more) size ≡ b → leb more (size - used) ≡ b
    by true e = le-leb more (size - used) (omega (arith, leb-true (used + more) size e))
    by false e = lt-leb more (size - used) (omega (arith, leb-false (used + more) size e))
