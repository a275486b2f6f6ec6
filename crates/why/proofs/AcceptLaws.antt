-- What is known of a message that nothing refuses.
-- Assumes nothing.
use Prim.Native.Nat.{ℕ, zero, suc, ◌≤◌}
use mathlib.Core.Path.{◌≡◌, refl, sym, subst}
use mathlib.Core.Bool.{Bool, true, false, cond}
use mathlib.Core.List.{List}
use Rattle.std.specs.Prelude.{Option, None, Some}
use native.Mathlib.Omega.{arith}
use lib.Dec.{eqb}
use lib.ListN.{length}
use borrow.Author.Tests.{eqb-true, eqb-false, ne_eqb}
use Rattle.packing.specs.declared.message.Event.{Event}
use Rattle.packing.specs.Room.{room_size}
use Rattle.prices.specs.Test.{figures_of}
use Rattle.kinds.specs.Kinds.{enters}
use Rattle.kinds.proofs.KindLaws.{enters-carries, enters-high}
use Rattle.book.specs.declared.Entry.{Entry}
use Rattle.book.specs.declared.Book.{Book}
use Rattle.book.specs.Entries.{last_number}
use Rattle.book.specs.Shape.{entries_of}
use Rattle.arrival.specs.declared.Facing.{Facing}
use Rattle.arrival.specs.Arrive.{tests_against}
use Rattle.arrival.specs.Asks.{Arriving, Faces, Enters, LeftIn}
use Rattle.prices.specs.Side.{away}
use Rattle.terms.specs.Terms.{market_of}
use Rattle.soundness.specs.declared.Check.{Check}
use Rattle.soundness.proofs.SummaryLaws.{faced-contra, shown-national}
use Rattle.series.specs.Checks.{Tested}
use Rattle.handler.specs.Acts.{Accepted, facing_by}
use Rattle.handler.specs.Accept.{comer_of}
use Rattle.series.specs.declared.Series.{Series}
use Rattle.series.specs.Series.{sound_series}
use Rattle.handler.specs.declared.Ask.{Ask}
use Rattle.handler.specs.Asked.{ask_of}
use Rattle.handler.specs.Refuse.{refusal_of}
use Rattle.handler.specs.Handle.{before_reading, accepted, refused, refused_or, heard, handled_as}
use Rattle.handler.proofs.Ways.{none-early}
use Rattle.handler.proofs.Passed.{accepts, facts, tests, any-party, accepted-arriving}
use Rattle.why.specs.Why.{FacedIn, found_tests, left_tests}

-- it unpacks to an event that the series accepts, and is answered so
pub record Heard (s : Series) (event : Option Event) (room : List ℕ) : Type 0 where
  pub message : Event
  pub read : event ≡ Some message
  pub space : room_size ≤ length room
  pub accepts : Accepted s (ask_of message)
  pub answer : handled_as s event room ≡ accepted s (ask_of message) room

pub heard-of : (s : Series) (event : Option Event) (room : List ℕ) → (handled_as s event room).answer.refusal ≡ 0 → Heard s event room
unfolding handled_as
heard-of s event room h = by (before_reading (length room) (sound_series s)) refl event refl h
  where
    judge : (room_size ≤ length room) × (sound_series s ≡ true) → before_reading (length room) (sound_series s) ≡ 0 → (e : Event) → event ≡ Some e
        → (b : Bool) → eqb (refusal_of s (ask_of e)) 0 ≡ b
        → (cond b (accepted s (ask_of e) room) (refused (refusal_of s (ask_of e)) s room)).answer.refusal ≡ 0 → Heard s event room
    judge g z e r true q k =
        record {
          message = e;
          read = r;
          space = g.0;
          accepts = accepts s e g.1 (eqb-true (refusal_of s (ask_of e)) 0 q);
          answer = rw (z, r, q) refl;
        }
    judge g z e r false q k = absurd (eqb-false (refusal_of s (ask_of e)) 0 q k)

    by : (n : ℕ) → before_reading (length room) (sound_series s) ≡ n → (u : Option Event) → event ≡ u
        → (refused_or n s room (heard s room u)).answer.refusal ≡ 0 → Heard s event room
    by zero z None r k = absurd (omega arith)
    by zero z (Some e) r k = judge (none-early (length room) (sound_series s) z) z e r (eqb (refusal_of s (ask_of e)) 0) refl k
    by (suc n) z u r k = absurd (omega (arith, rw (ne_eqb (suc n) 0 (λ w. omega (arith, w))) at k))

-- ---- what it enters ----

-- what the test of the series has seen is what an entry faces
pub faced-in : (s : Series) (e : Entry) {check : Check} → Tested s (Some check) → (f : Facing) → f ≡ facing_by check s.terms e.sell → FacedIn s e f
faced-in s e {check} tested f is =
    let k = tested.checked refl in
    let seen = k.summary check refl in
    record {
      well = k.well refl;
      faces = subst (Faces s.terms e (entries_of s.book)) (sym is) (record {
        contra = faced-contra seen e.sell;
        national = shown-national seen e.sell (away (market_of s.terms) e.sell);
      });
    }

module _ (s : Series) (a : Ask) (ok : Accepted s a) where
  module _ (k : enters a.kind ≡ true) where
    pub comer-fits : (s.terms.given ≤ last_number) × ((a.party ≤ 99) × (a.kind ≤ 15))
    comer-fits =
        ((facts s a ok).sound.most, ((any-party a (enters-carries a.kind k) (tests s a ok).party).1, enters-high a.kind k))

    pub comer-enters : (e : Entry) → e ≡ comer_of s a → (f : Facing) → FacedIn s e f → Enters s.terms e f s.book
    comer-enters e q f x = record {
      well = x.well;
      arriving = subst (λ (y : Entry). Arriving s.terms y (entries_of s.book)) (sym q) (accepted-arriving s a ok k);
      faces = x.faces;
    }

    -- the figures that were measured are those of the table
    pub found-figures-are : (rule : ℕ) (e : Entry) → e ≡ comer_of s a → (f : Facing) → FacedIn s e f
        → figures_of rule (tests_against s.terms e f.national (entries_of s.book)) ≡ figures_of rule (found_tests s a)
    found-figures-are rule e q f x = rw (k, x.faces.national, q) refl

    pub left-figures-are : (rule : ℕ) (e : Entry) → e ≡ comer_of s a → (f : Facing) → FacedIn s e f → (d : Book) → LeftIn s.terms e f s.book d
        → figures_of rule (tests_against s.terms e f.national (entries_of d)) ≡ figures_of rule (left_tests s a)
    left-figures-are rule e q f x d y = rw (k, x.faces.national, y.left, q) refl

  module _ (k : enters a.kind ≡ false) where
    pub found_none : (rule : ℕ) → record { first = 0; second = 0 } ≡ figures_of rule (found_tests s a)
    unfolding figures_of
    found_none rule = rw k refl

    pub left-none : (rule : ℕ) → record { first = 0; second = 0 } ≡ figures_of rule (left_tests s a)
    unfolding figures_of
    left-none rule = rw k refl
