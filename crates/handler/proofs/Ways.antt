-- The ways out of the handler: under which tests `handled` is which answer. Each is cited where the code returns.
-- Assumes nothing.
use Prim.Native.Nat.{ℕ, ◌≤◌, ◌<◌}
use mathlib.Core.Path.{◌≡◌, refl, sym, ap, ◌∙◌}
use mathlib.Core.Bool.{Bool, true, false, cond, not}
use mathlib.Core.List.{List}
use Rattle.std.specs.Prelude.{Option, None, Some}
use native.Mathlib.Omega.{arith}
use lib.Dec.{eqb, ltb}
use lib.ListN.{length}
use borrow.Author.Tests.{lt-ltb, le-ltb, ltb-false, eq-eqb, ne_eqb, eqb-true, eqb-false}
use Rattle.packing.specs.declared.message.Event.{Event}
use Rattle.packing.specs.Codec.{unpack_of}
use Rattle.packing.specs.Message.{messages}
use Rattle.packing.specs.Room.{room_size}
use Rattle.soundness.specs.declared.Check.{Check}
use Rattle.series.specs.declared.Series.{Series}
use Rattle.series.specs.Series.{sound_series}
use Rattle.handler.specs.Asked.{ask_of}
use Rattle.handler.specs.Refuse.{refusal_of}
use Rattle.handler.specs.Acts.{Whole}
use Rattle.series.specs.Checks.{Tested}
use Rattle.handler.specs.Handle.{first_of, before_reading, refused, refused_or, accepted, judged, heard, handled_as, handled}

module _ (s : Series) (message room : List ℕ) where
  module _ (space : room_size ≤ length room) where
    module _ (sound : sound_series s ≡ true) where
      pub handled-heard : handled s message room ≡ heard s room (unpack_of messages message)
      unfolding handled handled_as
      handled-heard = rw (le-ltb (length room) room_size space, sound)

      -- "A message that unpacks to no event stops there with refusal 1."
      pub handled-nothing : unpack_of messages message ≡ None → handled s message room ≡ refused 1 s room
      handled-nothing h = handled-heard ∙ ap (heard s room) h

      module _ (e : Event) (read : unpack_of messages message ≡ Some e) where
        pub handled-judged : handled s message room ≡ judged s (ask_of e) room (refusal_of s (ask_of e))
        handled-judged = handled-heard ∙ ap (heard s room) read

        -- refusals 2 to 9
        pub handled-refused : (refusal_of s (ask_of e) ≡ 0 → ⊥) → handled s message room ≡ refused (refusal_of s (ask_of e)) s room
        handled-refused h =
            handled-judged
            ∙ ap (λ (b : Bool). cond b (accepted s (ask_of e) room) (refused (refusal_of s (ask_of e)) s room)) (ne_eqb (refusal_of s (ask_of e)) 0 h)

        pub handled-accepted : refusal_of s (ask_of e) ≡ 0 → handled s message room ≡ accepted s (ask_of e) room
        handled-accepted h =
            handled-judged
            ∙ ap (λ (b : Bool). cond b (accepted s (ask_of e) room) (refused (refusal_of s (ask_of e)) s room)) (eq-eqb (refusal_of s (ask_of e)) 0 h)

-- what is refused before the message is read, and what is known where nothing is
-- No proof cites it: the code tests 10 and 11 one by one, by `returns-short` and `returns-unsound` below. It says it of both at once.
pub refused-early : (s : Series) (event : Option Event) (room : List ℕ) → (before_reading (length room) (sound_series s) ≡ 0 → ⊥)
    → handled_as s event room ≡ refused (before_reading (length room) (sound_series s)) s room
unfolding handled_as
refused-early s event room h = rw (ne_eqb (before_reading (length room) (sound_series s)) 0 h) refl

pub none-early : (space : ℕ) (sound : Bool) → before_reading space sound ≡ 0 → (room_size ≤ space) × (sound ≡ true)
none-early space sound h = by (ltb space room_size) refl sound refl h
  where
    by : (b : Bool) → ltb space room_size ≡ b → (c : Bool) → sound ≡ c → first_of b 10 (not c) 11 ≡ 0 → (room_size ≤ space) × (c ≡ true)
    by true p c q k = absurd (let z : ◌≡◌ {A = ℕ} 10 0 = k in omega arith)
    by false p false q k = absurd (let z : ◌≡◌ {A = ℕ} 11 0 = k in omega arith)
    by false p true q k = (ltb-false space room_size p, refl)

-- what the code returns
module _ (s : Series) (event : Option Event) (room : List ℕ) where
  -- 10 comes before all else
  pub returns-short : ltb (length room) room_size ≡ true → refused 10 s room ≡ handled_as s event room
  unfolding handled_as
  returns-short h = rw h refl

  -- by what the test of the series answers
  module _ (space : ltb (length room) room_size ≡ false) where
    pub returns-unsound : Tested s None → refused 11 s room ≡ handled_as s event room
    unfolding handled_as
    returns-unsound tested = rw (space, sym tested.verdict) refl

    module _ {check : Check} (tested : Tested s (Some check)) where
      is-sound : sound_series s ≡ true
      is-sound = sym tested.verdict

      -- a sound series, and what the test of it has seen
      pub admits : length s.blocked ≡ 16 → Whole s check
      admits makers =
          let k = tested.checked refl in
          record { sound = is-sound; well = k.well refl; blocks = makers; seen = k.summary check refl }

      as-heard : handled_as s event room ≡ heard s room event
      unfolding handled_as
      as-heard = rw (space, is-sound)

      pub returns-unread : event ≡ None → refused 1 s room ≡ handled_as s event room
      returns-unread u = sym (as-heard ∙ ap (heard s room) u)

      pub returns-judged : (e : Event) → event ≡ Some e → judged s (ask_of e) room (refusal_of s (ask_of e)) ≡ handled_as s event room
      returns-judged e u = sym (as-heard ∙ ap (heard s room) u)

-- ---- the other way round ----

-- a message is accepted by this way only
pub record Accepting (s : Series) (message room : List ℕ) : Type 0 where
  pub space : room_size ≤ length room
  pub sound : sound_series s ≡ true
  pub event : Event
  pub read : unpack_of messages message ≡ Some event
  pub passes : refusal_of s (ask_of event) ≡ 0

never-0 : {A : Type 0} (n : ℕ) → 1 ≤ n → n ≡ 0 → A
never-0 n k h = absurd (omega arith)

module _ (s : Series) (message room : List ℕ) where
  pub accepting : (handled s message room).answer.refusal ≡ 0 → Accepting s message room
  unfolding handled handled_as
  accepting h = by (ltb (length room) room_size) refl (sound_series s) refl (unpack_of messages message) refl h
    where
      judge : room_size ≤ length room → sound_series s ≡ true → (e : Event) → unpack_of messages message ≡ Some e → (b : Bool)
          → eqb (refusal_of s (ask_of e)) 0 ≡ b
          → (cond b (accepted s (ask_of e) room) (refused (refusal_of s (ask_of e)) s room)).answer.refusal ≡ 0 → Accepting s message room
      judge n g e r true q k = record { space = n; sound = g; event = e; read = r; passes = eqb-true (refusal_of s (ask_of e)) 0 q }
      judge n g e r false q k = absurd (eqb-false (refusal_of s (ask_of e)) 0 q k)

      by : (b : Bool) → ltb (length room) room_size ≡ b → (c : Bool) → sound_series s ≡ c → (u : Option Event) → unpack_of messages message ≡ u
          → (refused_or (first_of b 10 (not c) 11) s room (heard s room u)).answer.refusal ≡ 0 → Accepting s message room
      by true p c g u r k = never-0 10 (omega arith) k
      by false p false g u r k = never-0 11 (omega arith) k
      by false p true g None r k = never-0 1 (omega arith) k
      by false p true g (Some e) r k = judge (ltb-false (length room) room_size p) g e r (eqb (refusal_of s (ask_of e)) 0) refl k
