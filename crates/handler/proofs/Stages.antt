-- The stages of an accepted message, as the code goes through them: which stage the message's own part is, what settling behind it asks, and that both together
-- are the handler's answer.
-- Assumes nothing.
use Prim.Native.Nat.{ℕ, ◌≤◌}
use mathlib.Core.Path.{◌≡◌, refl, sym, subst}
use mathlib.Core.Bool.{Bool, true, false}
use mathlib.Core.List.{List}
use native.Mathlib.Omega.{arith}
use lib.Dec.{eqb}
use lib.ListN.{length}
use Rattle.lists.specs.Run.{still, and_then}
use Rattle.packing.specs.declared.report.Report.TheVariants.{Noted}
use Rattle.packing.specs.Room.{room_size}
use Rattle.book.specs.declared.Entry.{Entry}
use Rattle.book.specs.declared.Book.{Book}
use Rattle.book.specs.Shape.{entries_of}
use Rattle.telling.specs.Stage.{Roomy, Staged}
use Rattle.soundness_theory.specs.SoundMarket.{SoundFor}
use Rattle.settling_theory.specs.Settle.{settled}
use Rattle.terms.specs.declared.Terms.{Terms}
use Rattle.terms.specs.Terms.{market_of}
use Rattle.arrival.specs.Cancel.{cancel_entry, cancel_quote, sweep}
use Rattle.arrival.specs.Arrive.{reported, arrived}
use Rattle.telling.proofs.StageLaws.{staged-list, staged-then, staged-room}
use Rattle.series.specs.declared.Series.{Series}
use Rattle.handler.specs.Acts.{Accepted}
use Rattle.handler.specs.declared.Ask.{Ask}
use Rattle.kinds.specs.Kinds.{enters, cancels_entry, cancels_quote, sets_phase}
use Rattle.kinds.proofs.KindLaws.{stays_out}
use Rattle.handler.specs.Accept.{comer, own_part, terms_after, blocked_after, settled_if, done}
use Rattle.handler.specs.Handle.{Handled, accepted}
use Rattle.handler.proofs.Accepted.{own-sound, accepted-room}

-- ---- which stage the message's own part is ----

module _ (t : Terms) (a : Ask) (l : List Entry) where
  pub own-enters : enters a.kind ≡ true → own_part t a l ≡ arrived t (comer t.given a) l
  unfolding own_part
  own-enters q = rw q

  pub own-entry : a.kind ≡ 7 → own_part t a l ≡ cancel_entry a.party a.entry l
  unfolding own_part
  own-entry q = rw (q, stays_out 7 refl)

  pub own-quote : a.kind ≡ 8 → own_part t a l ≡ cancel_quote a.party a.sell l
  unfolding own_part
  own-quote q = rw (q, stays_out 8 refl)

  pub own-phase : a.kind ≡ 11 → own_part t a l ≡ and_then (reported Noted l) (sweep a.quantity)
  unfolding own_part
  own-phase q = rw (q, stays_out 11 refl)

  pub own-noted : enters a.kind ≡ false → cancels_entry a.kind ≡ false → cancels_quote a.kind ≡ false → sets_phase a.kind ≡ false
      → own_part t a l ≡ reported Noted l
  unfolding own_part
  own-noted q q₇ q₈ q₁₁ = rw (q, q₇, q₈, q₁₁)

-- "After every accepted message in an open series."
module _ (t : Terms) (l : List Entry) where
  -- No proof cites it: the check finds it where `settle_if` settles. It stands for the open series, as the next law for the others.
  pub settled-open : eqb t.phase 1 ≡ true → settled_if t l ≡ settled (market_of t) l
  settled-open q = rw q

  pub settled-shut : eqb t.phase 1 ≡ false → settled_if t l ≡ still l
  settled-shut q = rw q

-- ---- behind the message's own part ----

module _ (s : Series) (a : Ask) (ok : Accepted s a) {room : List ℕ} (space : room_size ≤ length room) {b : Book} {room' : List ℕ} {n' : ℕ}
    (first : Staged (own_part s.terms a (entries_of s.book)) room 0 b room' n') where
  -- the book that it left is sound for settling
  pub then-sound : SoundFor (market_of (terms_after s.terms a)) (entries_of b)
  then-sound = subst (SoundFor (market_of (terms_after s.terms a))) (sym (staged-list first)) (own-sound s a ok)

  -- and the room is enough
  pub then-room : Roomy room' n' (settled_if (terms_after s.terms a) (entries_of b)).records
  unfolding done
  then-room = staged-room first (settled_if (terms_after s.terms a)) (accepted-room s a ok room space)

  -- with settling behind it, that is the whole
  pub then-done : {after : Book} {room'' : List ℕ} {n'' : ℕ} → Staged (settled_if (terms_after s.terms a) (entries_of b)) room' n' after room'' n''
      → Staged (done s.terms a (entries_of s.book)) room 0 after room'' n''
  unfolding done
  then-done t = staged-then first (settled_if (terms_after s.terms a)) t

-- WHAT THE STAGES LEFT IS THE ANSWER
pub accepted-answer : (s : Series) (a : Ask) {room : List ℕ} {after : Book} {room' : List ℕ} {n' : ℕ} {terms' : Terms} {blocked' : List Bool}
    → Staged (done s.terms a (entries_of s.book)) room 0 after room' n' → terms' ≡ terms_after s.terms a
    → blocked' ≡ blocked_after s.terms a (entries_of s.book) s.blocked
    → ◌≡◌ {A = Handled}
    (record { answer = record { refusal = 0; count = n'; series = record { terms = terms'; blocked = blocked'; book = after } }; room = room' })
    (accepted s a room)
accepted-answer s a {n' = n'} x e f =
    let n : n' ≡ length (done s.terms a (entries_of s.book)).records = omega (arith, x.count) in
    λ i. record { answer = record { refusal = 0; count = n i; series = record { terms = e i; blocked = f i; book = x.book i } }; room = x.bytes i }
