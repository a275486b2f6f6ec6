-- THE REFUSALS, IN ORDER OF TEST: the number answered is that of the first test that holds, 0 where none does; and a refusal changes nothing.
-- Assumes nothing.
use Prim.Native.Nat.{ℕ, ◌≤◌}
use mathlib.Core.Path.{◌≡◌, refl, sym, ◌∙◌}
use mathlib.Core.Bool.{Bool, true, false, cond, not}
use mathlib.Core.List.{List, [], ◌∷◌}
use Rattle.std.specs.Prelude.{Option, None, Some}
use native.Mathlib.Omega.{arith}
use lib.Dec.{eqb, ltb}
use lib.ListN.{length, drop}
use borrow.Author.Tests.{eqb-true}
use Rattle.lists.specs.Tests.{All, first_holding}
use Rattle.lists.proofs.FirstLaws.{first-none, none_first}
use Rattle.packing.specs.declared.message.Event.{Event}
use Rattle.packing.specs.Codec.{unpack_of}
use Rattle.packing.specs.Message.{messages}
use Rattle.packing.specs.Room.{room_size}
use Rattle.book.specs.Shape.{entries_of}
use Rattle.series.specs.declared.Series.{Series}
use Rattle.series.specs.Series.{sound_series}
use Rattle.handler.specs.declared.Ask.{Ask}
use Rattle.handler.specs.Asked.{ask_of}
use Rattle.handler.specs.Refuse.{bad_party, bad_price, bad_quantity, not_open, is_blocked, is_full, is_spent, is_missing, refusal_of}
use Rattle.handler.specs.Handle.{first_of, refused_or, Handled, refused, accepted, heard, handled_as, handled}

-- the message unpacks to no event; a test is put to what an event asks
abbrev pub is_nothing : Option Event → Bool
is_nothing None = true
is_nothing (Some e) = false

abbrev pub put_to : Option Event → (Ask → Bool) → Bool
put_to None test = false
put_to (Some e) test = test (ask_of e)

-- DOCUMENT 01'S TABLE, in its order: 10, 11, 1, 2, 3, 4, 5, 6, 7, 9, 8
abbrev pub table : Series → Option Event → List ℕ → List (ℕ × Bool)
table s event room =
    -- "report room under 31,920 bytes (2,280 reports of 14)"
    (10, ltb (length room) room_size)
    -- "state handed in is unsound"
    ∷ (11, not (sound_series s))
    -- "length not 11, unknown kind, a nonzero unused bit or field"
    ∷ (1, is_nothing event)
    -- "party outside 1-99; kinds 1-4, 8, 12: outside 1-16"
    ∷ (2, put_to event bad_party)
    -- "a price out of range or, but for the underlying, off the M grid (away: if not 0)"; "3 tests the new grid"
    ∷ (3, put_to event (bad_price s.terms.m))
    -- "quantity out of range, or phase above 2"
    ∷ (4, put_to event bad_quantity)
    -- "kinds 1-6, series not open"
    ∷ (5, put_to event (not_open s.terms.phase))
    -- "kinds 1-4, maker blocked"
    ∷ (6, put_to event (is_blocked s.blocked))
    -- "kinds 1-6, 64 entries rest, not counting the quote this one replaces"
    ∷ (7, put_to event (is_full (entries_of s.book)))
    -- "kinds 1-6, entry 1,000,000 has been given"
    ∷ (9, put_to event (is_spent s.terms.given))
    -- "kinds 7, 8: no such entry of that party, or no such quote"
    ∷ (8, put_to event (is_missing (entries_of s.book)))
    ∷ []

module _ (s : Series) (message room : List ℕ) where
  -- THE REFUSAL IS THE FIRST OF THE TABLE WHOSE TEST HOLDS
  pub refusals-in-order : (handled s message room).answer.refusal ≡ first_holding (table s (unpack_of messages message) room)
  unfolding handled handled_as refusal_of
  refusals-in-order = by (ltb (length room) room_size) (sound_series s) (unpack_of messages message)
    where
      judge : (e : Event) (b : Bool) → eqb (refusal_of s (ask_of e)) 0 ≡ b
          → (cond b (accepted s (ask_of e) room) (refused (refusal_of s (ask_of e)) s room)).answer.refusal ≡ refusal_of s (ask_of e)
      judge e true q = sym (eqb-true (refusal_of s (ask_of e)) 0 q)
      judge e false q = refl

      by : (b c : Bool) (u : Option Event) → (refused_or (first_of b 10 (not c) 11) s room (heard s room u)).answer.refusal
          ≡ cond b 10 (cond (not c) 11 (first_holding (drop 2 (table s u room))))
      by true c u = refl
      by false false u = refl
      by false true None = refl
      by false true (Some e) = judge e (eqb (refusal_of s (ask_of e)) 0) refl

  -- 0 EXACTLY WHEN NONE HOLDS
  pub accepted-none : (handled s message room).answer.refusal ≡ 0 → All (λ (t : ℕ × Bool). t.1 ≡ false) (table s (unpack_of messages message) room)
  accepted-none h = first-none (table s (unpack_of messages message) room) numbers (sym refusals-in-order ∙ h)
    where
      numbers : All (λ (t : ℕ × Bool). 1 ≤ t.0) (table s (unpack_of messages message) room)
      numbers = (
        omega arith,
        (
          omega arith,
          (omega arith, (omega arith, (omega arith, (omega arith, (omega arith, (omega arith, (omega arith, (omega arith, (omega arith, tt))))))))),
        ),
      )

  -- so a message that no test refuses is accepted: refusing all is shut out
  pub none-accepted : All (λ (t : ℕ × Bool). t.1 ≡ false) (table s (unpack_of messages message) room) → (handled s message room).answer.refusal ≡ 0
  none-accepted a = refusals-in-order ∙ none_first (table s (unpack_of messages message) room) a

-- ---- "Each returns its number and count 0 and changes nothing." ----

pub record Unchanged (s : Series) (room : List ℕ) (h : Handled) : Type 0 where
  pub series : h.answer.series ≡ s
  pub count : h.answer.count ≡ 0
  pub bytes : h.room ≡ room

-- A REFUSAL CHANGES NOTHING
pub refusals-keep-as : (s : Series) (event : Option Event) (room : List ℕ) → ((handled_as s event room).answer.refusal ≡ 0 → ⊥)
    → Unchanged s room (handled_as s event room)
unfolding handled_as
refusals-keep-as s event room h = by (ltb (length room) room_size) (sound_series s) event h
  where
    same : (why : ℕ) → Unchanged s room (refused why s room)
    same why = record { series = refl; count = refl; bytes = refl }

    judge : (e : Event) (b : Bool) → ((cond b (accepted s (ask_of e) room) (refused (refusal_of s (ask_of e)) s room)).answer.refusal ≡ 0 → ⊥)
        → Unchanged s room (cond b (accepted s (ask_of e) room) (refused (refusal_of s (ask_of e)) s room))
    judge e true k = absurd (k refl)
    judge e false k = same (refusal_of s (ask_of e))

    by : (b c : Bool) (u : Option Event) → ((refused_or (first_of b 10 (not c) 11) s room (heard s room u)).answer.refusal ≡ 0 → ⊥)
        → Unchanged s room (refused_or (first_of b 10 (not c) 11) s room (heard s room u))
    by true c u k = same 10
    by false false u k = same 11
    by false true None k = same 1
    by false true (Some e) k = judge e (eqb (refusal_of s (ask_of e)) 0) k

pub refusals-keep : (s : Series) (message room : List ℕ) → ((handled s message room).answer.refusal ≡ 0 → ⊥) → Unchanged s room (handled s message room)
unfolding handled
refusals-keep s message room h = refusals-keep-as s (unpack_of messages message) room h
