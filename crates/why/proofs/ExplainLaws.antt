-- What the tool tells, by what the handler answers in another room: the answer does not depend on the room, and the reports that it wrote there, stored at the
-- front of the room that was lent, are those that it would have written in that.
-- Assumes nothing.
use Prim.Native.Nat.{ℕ, ◌*◌, ◌≤◌, ◌<◌}
use mathlib.Core.Path.{◌≡◌, refl, sym, ap, ap₂, subst, ◌∙◌}
use mathlib.Core.Bool.{Bool, true, false, cond, not}
use mathlib.Core.List.{List}
use Rattle.std.specs.Prelude.{Option, None, Some}
use native.Mathlib.Omega.{arith}
use lib.Dec.{eqb, leb, ltb}
use lib.ListN.{length, take}
use lib.Seq.{sets, take_at}
use borrow.Author.Tests.{eq-eqb, ne_eqb, lt-leb, le-ltb}
use Rattle.std.specs.Prelude.{Ok, Err}
use Rattle.packing.specs.declared.message.Event.{Event}
use Rattle.packing.specs.declared.report.Report.{Report}
use Rattle.packing.specs.Room.{packed_all, written, report_at, room_size}
use Rattle.packing.proofs.RoomLaws.{length-written, written-parts, length-packed_all}
use Rattle.book.specs.Shape.{entries_of}
use Rattle.series.specs.declared.Series.{Series}
use Rattle.series.specs.Series.{sound_series}
use Rattle.handler.specs.Asked.{ask_of}
use Rattle.handler.specs.Acts.{Accepted}
use Rattle.handler.specs.Refuse.{refusal_of}
use Rattle.handler.specs.Accept.{done}
use Rattle.handler.specs.Handle.{Answered, Handled, first_of, in_room, refused, refused_or, accepted, heard, handled_as}
use Rattle.handler.proofs.Accepted.{done-part}
use Rattle.why.specs.Reasons.{Why}
use Rattle.why.specs.Why.{why_of, in_lent, refusal_at, explained_as}
use Rattle.why.proofs.AcceptLaws.{Heard, heard-of}

-- ---- the answer and the room ----

module _ (s : Series) (a b : List ℕ) where
  heard-same : (event : Option Event) → (heard s a event).answer ≡ (heard s b event).answer
  heard-same None = refl
  heard-same (Some e) = by (eqb (refusal_of s (ask_of e)) 0)
    where
      by : (z : Bool) → (cond z (accepted s (ask_of e) a) (refused (refusal_of s (ask_of e)) s a)).answer
          ≡ (cond z (accepted s (ask_of e) b) (refused (refusal_of s (ask_of e)) s b)).answer
      by true = refl
      by false = refl

  early-same : (n : ℕ) (x y : Handled) → x.answer ≡ y.answer → (refused_or n s a x).answer ≡ (refused_or n s b y).answer
  early-same n x y h = by (eqb n 0)
    where
      by : (z : Bool) → (cond z x (refused n s a)).answer ≡ (cond z y (refused n s b)).answer
      by true = h
      by false = refl

  -- any two rooms that are long enough
  pub same_answer : (event : Option Event) → room_size ≤ length a → room_size ≤ length b → (handled_as s event a).answer ≡ (handled_as s event b).answer
  unfolding handled_as
  same_answer event h k =
      ap (λ (z : Bool). (refused_or (first_of z 10 (not (sound_series s)) 11) s a (heard s a event)).answer) (le-ltb (length a) room_size h)
      ∙ early-same (first_of false 10 (not (sound_series s)) 11) (heard s a event) (heard s b event) (heard-same event)
      ∙ sym (ap (λ (z : Bool). (refused_or (first_of z 10 (not (sound_series s)) 11) s b (heard s b event)).answer) (le-ltb (length b) room_size k))

-- reports stored at the front of another room
stored-front : (room held : List ℕ) (rs : List Report) (n : ℕ) → n ≡ 14 * length rs → n ≤ length held
    → sets room 0 (take n (written held 0 rs)) ≡ written room 0 rs
unfolding written
stored-front room held rs n is fits =
    ap (sets room 0) (ap (take n) (written-parts held 0 rs (omega (arith, is))) ∙ take_at (packed_all rs) _ n (omega (arith, is, length-packed_all rs)))

-- ---- what is told ----

abbrev IsNone : Option Event → Type 0
IsNone None = Unit {0}
IsNone (Some e) = ⊥

-- 10 comes first
pub explains-10 : (s : Series) (event : Option Event) (place : ℕ) (room : List ℕ) → ltb (length room) room_size ≡ true
    → in_lent (Err 10) room ≡ explained_as s event place room
unfolding explained_as handled_as
explains-10 s event place room h = rw h refl

module _ (s : Series) (event : Option Event) (place : ℕ) (room held : List ℕ) (space : room_size ≤ length room) (other : room_size ≤ length held)
    (r : Answered) (after : List ℕ) (is : in_room r after ≡ handled_as s event held) where
  answer-is : r ≡ (handled_as s event room).answer
  answer-is = ap (λ (h : Handled). h.answer) is ∙ same_answer s held room event other space

  refuses : (why : ℕ) → why ≡ refusal_at r place → (why ≡ 0 → ⊥) → in_lent (Err why) room ≡ explained_as s event place room
  unfolding explained_as
  refuses why number h =
      let number_is : why ≡ refusal_at (handled_as s event room).answer place = number ∙ ap (λ (x : Answered). refusal_at x place) answer-is in
      ap (λ (n : ℕ). in_lent (Err n) room) number_is
      ∙ sym (rw (ne_eqb (refusal_at (handled_as s event room).answer place) 0 (λ z. h (number_is ∙ z))) refl)

  -- the message's own refusal, and then a place at or beyond the count
  pub explains-own : (r.refusal ≡ 0 → ⊥) → in_lent (Err r.refusal) room ≡ explained_as s event place room
  explains-own h = refuses r.refusal (sym (ap (λ (b : Bool). first_of (not b) r.refusal (leb r.count place) 12) (ne_eqb r.refusal 0 h))) h

  pub explains-12 : r.refusal ≡ 0 → leb r.count place ≡ true → in_lent (Err 12) room ≡ explained_as s event place room
  explains-12 z past = refuses 12 (sym (rw (eq-eqb r.refusal 0 z, past) refl)) (λ k. absurd (let n : ◌≡◌ {A = ℕ} 12 0 = k in omega arith))

  module _ (zero : r.refusal ≡ 0) where
    refusal-none : (handled_as s event room).answer.refusal ≡ 0
    refusal-none = sym (ap (λ (x : Answered). x.refusal) answer-is) ∙ zero

    pub hears : Heard s event room
    hears = heard-of s event room refusal-none

    pub read_some : event ≡ None → ⊥
    read_some h = subst IsNone (sym h ∙ hears.read) tt

    module _ (e : Event) (read : event ≡ Some e) where
      same-message : hears.message ≡ e
      same-message = let z : Some hears.message ≡ Some e = sym hears.read ∙ read in cc

      pub accepts-event : Accepted s (ask_of e)
      accepts-event = subst (λ (x : Event). Accepted s (ask_of x)) same-message hears.accepts

      abbrev reports : List Report
      reports = (done s.terms (ask_of e) (entries_of s.book)).records

      answer-accepted : handled_as s event room ≡ accepted s (ask_of e) room
      answer-accepted = hears.answer ∙ ap (λ (x : Event). accepted s (ask_of x) room) same-message

      counts : r.count ≡ length reports
      counts = ap (λ (x : Answered). x.count) answer-is ∙ ap (λ (h : Handled). h.answer.count) answer-accepted

      few : 14 * length reports ≤ room_size
      few = omega (arith, (done-part s (ask_of e) accepts-event).few)

      held-accepted : handled_as s event held ≡ accepted s (ask_of e) held
      held-accepted =
          let h = heard-of s event held (ap (λ (x : Answered). x.refusal) (same_answer s held room event other space) ∙ refusal-none) in
          let same : h.message ≡ e = (let z : Some h.message ≡ Some e = sym h.read ∙ read in cc) in
          h.answer ∙ ap (λ (x : Event). accepted s (ask_of x) held) same

      wrote : after ≡ written held 0 reports
      wrote = ap (λ (h : Handled). h.room) (is ∙ held-accepted)

      pub front_fits : (14 * r.count ≤ length after) × (14 * r.count ≤ length room)
      front_fits = (omega (arith, counts, few, other, ap length wrote, length-written held 0 reports), omega (arith, counts, few, space))

      room_after : sets room 0 (take (14 * r.count) after) ≡ written room 0 reports
      room_after =
          ap (λ (l : List ℕ). sets room 0 (take (14 * r.count) l)) wrote
          ∙ stored-front room held reports (14 * r.count) (omega (arith, counts)) (omega (arith, counts, few, other))

      pub explains-reason : place < r.count → (room' : List ℕ) → room' ≡ sets room 0 (take (14 * r.count) after) → (w : Why)
          → w ≡ why_of s (Some e) (report_at room' place) → in_lent (Ok w) room' ≡ explained_as s event place room
      unfolding explained_as
      explains-reason more room' copied w why =
          let there : room' ≡ written room 0 reports = copied ∙ room_after in
          ap₂ in_lent (ap Ok (why ∙ ap (λ (l : List ℕ). why_of s (Some e) (report_at l place)) there)) there
          ∙ sym (rw (answer-accepted, read, lt-leb (length reports) place (omega (arith, more, counts))) refl)
