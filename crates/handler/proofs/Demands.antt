-- WHAT AN ACCEPTED MESSAGE GIVES, said of `handled` for every series, message and room: its reports stand at the front of the room and nowhere else, and are
-- read back from there; they are at most 2,280; settling took at most N(N+5)/2 steps, with one report each, and left nothing to do; and what is answered in a
-- run.
-- Assumes nothing.
use Prim.Native.Nat.{ℕ, zero, suc, ◌+◌, ◌*◌, ◌≤◌, ◌<◌}
use mathlib.Core.Path.{◌≡◌, refl, sym, subst, ap, ◌∙◌}
use mathlib.Core.Bool.{Bool, true, false, cond}
use mathlib.Core.List.{List, [], ◌∷◌, ◌++◌, map}
use Rattle.std.specs.Prelude.{Option, None, Some}
use native.Mathlib.Omega.{arith}
use lib.Dec.{eqb}
use lib.ListN.{length, take, drop, length-append, length-drop}
use lib.Seq.{take_at, drop-append_seam}
use borrow.Author.Tests.{eq-eqb, ne_eqb}
use Rattle.prices.specs.declared.Market.{Market}
use Rattle.lists.specs.Places.{At}
use Rattle.lists.specs.Tests.{All}
use Rattle.lists.specs.Run.{stop, Complete, Ran, still}
use Rattle.packing.specs.declared.message.Event.{Event}
use Rattle.packing.specs.declared.report.Report.{Report}
use Rattle.packing.specs.Codec.{unpack_of}
use Rattle.packing.specs.Message.{messages, message_at}
use Rattle.packing.specs.Room.{packed_all, written, read_back, room_size, most_reports}
use Rattle.packing.proofs.CodecLaws.{unpack-other, unpack-short}
use Rattle.packing.proofs.RoomLaws.{written-parts, reports-read-back}
use Rattle.book.specs.declared.Entry.{Entry}
use Rattle.book.specs.Shape.{entries_of}
use Rattle.book.proofs.ShapeLaws.{entries-of-book}
use Rattle.settling_theory.specs.Settle.{easing, stirring, next_ease, next_stir, eased, stirred, settled}
use Rattle.settling_theory.proofs.Settles.{Settled, settles}
use Rattle.settling_theory.proofs.SettleTells.{settled_says}
use Rattle.telling.specs.Tell.{traded, repriced}
use Rattle.lists.proofs.Bools.{cond_either}
use Rattle.terms.specs.Terms.{market_of}
use Rattle.series.specs.declared.Series.{Series}
use Rattle.series.specs.Series.{sound_series}
use Rattle.handler.specs.Acts.{Accepted}
use Rattle.handler.specs.declared.Ask.{Ask}
use Rattle.handler.specs.Asked.{ask_of}
use Rattle.handler.specs.Accept.{own_part, terms_after, settled_if, done, series_after}
use Rattle.handler.specs.Handle.{Handled, refused, accepted, handled, handled_at}
use Rattle.handler.proofs.Ways.{Accepting, accepting, handled-nothing, handled-accepted}
use Rattle.handler.proofs.Passed.{accepts, of-accepted}
use Rattle.handler.proofs.Accepted.{own-sound, done-part}

-- ---- the reports of a message ----

-- its own part, and settling behind it
abbrev pub own_of : Series → Ask → Ran (List Entry) Report
own_of s a = own_part s.terms a (entries_of s.book)

abbrev pub settling_of : Series → Ask → Ran (List Entry) Report
settling_of s a = settled_if (terms_after s.terms a) (own_of s a).final

-- settling trades and moves: what is so of every trade and every move is so of each of its reports
pub settling-says : (s : Series) (a : Ask) → Accepted s a → (P : Report → Type 0) → ((x : Entry) → P (repriced x)) → ((x y : Entry) (q : ℕ) → P (traded x y q))
    → All P (settling_of s a).records
unfolding still
settling-says s a ok P moves trades =
    cond_either (λ (x : Ran (List Entry) Report). All P x.records) (eqb (terms_after s.terms a).phase 1)
    (settled (market_of (terms_after s.terms a)) (own_of s a).final) (still (own_of s a).final)
    (λ _. settled_says P moves trades (own-sound s a ok)) (λ _. tt)

abbrev pub reports_of : Series → Option Event → List Report
reports_of s None = []
reports_of s (Some e) = (done s.terms (ask_of e) (entries_of s.book)).records

-- the counted reports of an answer, as they unpack from the room
abbrev pub reports_in : Handled → List (Option Report)
reports_in h = read_back h.answer.count h.room

-- each of them unpacks, to a report of which P holds
abbrev pub OfReport : (Report → Type 0) → Option Report → Type 0
OfReport P None = ⊥
OfReport P (Some r) = P r

abbrev pub EachReport : (Report → Type 0) → Handled → Type 0
EachReport P h = All (OfReport P) (reports_in h)

module _ (s : Series) (a : Ask) (ok : Accepted s a) (room : List ℕ) (space : room_size ≤ length room) where
  pub accepted-told : reports_in (accepted s a room) ≡ map Some (done s.terms a (entries_of s.book)).records
  accepted-told =
      reports-read-back room 0 (done s.terms a (entries_of s.book)).records (done-part s a ok).fit (omega (arith, (done-part s a ok).few, space))

  -- what is so of each report of the definition is so of each that stands in the room,
  pub each-told : (P : Report → Type 0) → All P (done s.terms a (entries_of s.book)).records → EachReport P (accepted s a room)
  each-told P h = subst (All (OfReport P)) (sym accepted-told) (over (done s.terms a (entries_of s.book)).records h)
    where
      over : (rs : List Report) → All P rs → All (OfReport P) (map Some rs)
      over [] h = tt
      over (r ∷ rs) h = (h.0, over rs h.1)

  -- and each of those stands in the room
  pub told_at : (i : ℕ) (r : Report) → At (done s.terms a (entries_of s.book)).records i r → At (reports_in (accepted s a room)) i (Some r)
  told_at i r h = subst (λ (rs : List (Option Report)). At rs i (Some r)) (sym accepted-told) (over (done s.terms a (entries_of s.book)).records i h)
    where
      over : (rs : List Report) (i : ℕ) → At rs i r → At (map Some rs) i (Some r)
      over [] i h = h
      over (x ∷ rs) zero h = ap Some h
      over (x ∷ rs) (suc i) h = over rs i h

module _ (s : Series) (message room : List ℕ) (zero : (handled s message room).answer.refusal ≡ 0) where
  way : Accepting s message room
  way = accepting s message room zero

  ok : Accepted s (ask_of way.event)
  ok = accepts s way.event way.sound way.passes

  answer-is : handled s message room ≡ accepted s (ask_of way.event) room
  answer-is = handled-accepted s message room way.space way.sound way.event way.read way.passes

  reports-are : reports_of s (unpack_of messages message) ≡ reports_of s (Some way.event)
  reports-are = ap (reports_of s) way.read

  fits : 14 * (0 + length (reports_of s (unpack_of messages message))) ≤ length room
  fits = omega (arith, ap length reports-are, (done-part s (ask_of way.event) ok).few, way.space)

  -- one counted report for each that the definition has
  pub reports-counted : (handled s message room).answer.count ≡ length (reports_of s (unpack_of messages message))
  reports-counted = ap (λ (h : Handled). h.answer.count) answer-is ∙ ap length (sym reports-are)

  -- THEY STAND AT THE FRONT OF THE ROOM, AND NO BYTE BEYOND THEM IS TOUCHED
  pub reports-in-front : (handled s message room).room
      ≡ packed_all (reports_of s (unpack_of messages message)) ++ drop (14 * (handled s message room).answer.count) room
  reports-in-front =
      let size : 14 * (0 + length (reports_of s (unpack_of messages message))) ≡ 14 * (handled s message room).answer.count = omega (arith, reports-counted) in
      ap (λ (h : Handled). h.room) answer-is ∙ ap (written room 0) (sym reports-are)
      ∙ written-parts room 0 (reports_of s (unpack_of messages message)) fits
      ∙ ap (λ (n : ℕ). packed_all (reports_of s (unpack_of messages message)) ++ drop n room) size

  -- EACH REPORT UNPACKS TO THE DEFINITION'S
  pub reports-told : reports_in (handled s message room) ≡ map Some (reports_of s (unpack_of messages message))
  reports-told =
      ap reports_in answer-is ∙ accepted-told s (ask_of way.event) ok room way.space ∙ ap (map Some) (sym reports-are)

  -- "2,280 reports of 14": THE ROOM IS ENOUGH
  pub room-enough : (handled s message room).answer.count ≤ most_reports
  room-enough = omega (arith, ap (λ (h : Handled). h.answer.count) answer-is, (done-part s (ask_of way.event) ok).few)

-- WHAT HOLDS OF EVERY REPORT OF THE DEFINITION HOLDS OF EVERY ONE IN THE ROOM
pub reports-hold : (s : Series) (message room : List ℕ) (e : Event) → unpack_of messages message ≡ Some e → (handled s message room).answer.refusal ≡ 0
    → (P : Report → Type 0) → All P (done s.terms (ask_of e) (entries_of s.book)).records → EachReport P (handled s message room)
reports-hold s message room e read h P a = of-accepted s message room e read h (EachReport P) (λ ok space. each-told s (ask_of e) ok room space P a)

-- ---- demand 3 ----

-- a whole run of easing, and behind it a whole run of trades and moves
pub record WholeRuns (k : Market) (l : List Entry) (x : Ran (List Entry) Report) : Type 0 where
  pub reports : x.records ≡ (eased k l).records ++ (stirred k (eased k l).final).records
  pub easing-run : Complete (next_ease k) l (eased k l).records (eased k l).final
  pub stirring-run : Complete (next_stir k) (eased k l).final (stirred k (eased k l).final).records x.final

-- of an answer h to what a asks of the series s; N is the number of entries that rest after the message's own part
pub record Demand3 (s : Series) (a : Ask) (h : Handled) : Type 0 where
  -- at most N(N+5)/2 steps of settling
  pub steps : 2 * length (settling_of s a).records ≤ length (own_of s a).final * (length (own_of s a).final + 5)
  -- one report each, behind those of the message's own part; the book left is the one that settling left
  pub reports : (done s.terms a (entries_of s.book)).records ≡ (own_of s a).records ++ (settling_of s a).records
  pub count : h.answer.count ≡ length (own_of s a).records + length (settling_of s a).records
  pub entries : entries_of h.answer.series.book ≡ (settling_of s a).final
  -- "in an open series": in no other is anything settled
  pub shut : (h.answer.series.terms.phase ≡ 1 → ⊥) → settling_of s a ≡ still (own_of s a).final
  -- in an open series settling is done to its end: its reports are those of easing, then those of trades and moves, and each of the two is a whole run of
  -- steps, from the entries that it finds to those at which there is none
  pub whole : h.answer.series.terms.phase ≡ 1 → WholeRuns (market_of h.answer.series.terms) (own_of s a).final (settling_of s a)
  -- afterwards no entry is marketable, off its resting prices, or to be eased
  pub unstirred : h.answer.series.terms.phase ≡ 1 → (i : ℕ) (x : Entry) → At (entries_of h.answer.series.book) i x
      → stirring (market_of h.answer.series.terms) (entries_of h.answer.series.book) x ≡ false
  pub uneased : h.answer.series.terms.phase ≡ 1 → (i : ℕ) (x : Entry) → At (entries_of h.answer.series.book) i x
      → easing (market_of h.answer.series.terms) x ≡ false
  pub stirs-no-more : h.answer.series.terms.phase ≡ 1 → next_stir (market_of h.answer.series.terms) (entries_of h.answer.series.book) ≡ stop
  pub eases-no-more : h.answer.series.terms.phase ≡ 1 → next_ease (market_of h.answer.series.terms) (entries_of h.answer.series.book) ≡ stop

module _ (s : Series) (a : Ask) (acc : Accepted s a) (room : List ℕ) where
  after : Settled (market_of (terms_after s.terms a)) (own_of s a).final (terms_after s.terms a).given
  after = settles (own-sound s a acc)

  open-settled : (terms_after s.terms a).phase ≡ 1 → settling_of s a ≡ settled (market_of (terms_after s.terms a)) (own_of s a).final
  open-settled p = rw (eq-eqb (terms_after s.terms a).phase 1 p)

  left : (terms_after s.terms a).phase ≡ 1 → (settled (market_of (terms_after s.terms a)) (own_of s a).final).final ≡ entries_of (series_after s a).book
  unfolding done
  left p = sym (entries-of-book (settling_of s a).final ∙ ap (λ (x : Ran (List Entry) Report). x.final) (open-settled p))

  both_runs : WholeRuns (market_of (terms_after s.terms a)) (own_of s a).final (settled (market_of (terms_after s.terms a)) (own_of s a).final)
  unfolding settled
  both_runs = record { reports = refl; easing-run = after.easing-run; stirring-run = after.stirring-run }

  demand-3-of : Demand3 s a (accepted s a room)
  unfolding done still
  demand-3-of = record {
    steps = few (eqb (terms_after s.terms a).phase 1) refl;
    reports = refl;
    count = length-append (own_of s a).records (settling_of s a).records;
    entries = entries-of-book (settling_of s a).final;
    shut = λ p. rw (ne_eqb (terms_after s.terms a).phase 1 p);
    whole = λ p. subst (WholeRuns (market_of (terms_after s.terms a)) (own_of s a).final) (sym (open-settled p)) both_runs;
    unstirred = λ p.
        subst (λ (l : List Entry). (i : ℕ) (x : Entry) → At l i x → stirring (market_of (terms_after s.terms a)) l x ≡ false) (left p) after.unstirred;
    uneased = λ p. subst (λ (l : List Entry). (i : ℕ) (x : Entry) → At l i x → easing (market_of (terms_after s.terms a)) x ≡ false) (left p) after.uneased;
    stirs-no-more = λ p. subst (λ (l : List Entry). next_stir (market_of (terms_after s.terms a)) l ≡ stop) (left p) after.stirs-no-more;
    eases-no-more = λ p. subst (λ (l : List Entry). next_ease (market_of (terms_after s.terms a)) l ≡ stop) (left p) after.eases-no-more;
  }
    where
      few : (b : Bool) → eqb (terms_after s.terms a).phase 1 ≡ b
          → 2 * length (cond b (settled (market_of (terms_after s.terms a)) (own_of s a).final) (still (own_of s a).final)).records
          ≤ length (own_of s a).final * (length (own_of s a).final + 5)
      few true q = after.steps
      few false q = omega arith

-- DEMAND 3, for every sound series and accepted message
pub demand-3 : (s : Series) (message room : List ℕ) (e : Event) → unpack_of messages message ≡ Some e → (handled s message room).answer.refusal ≡ 0
    → Demand3 s (ask_of e) (handled s message room)
demand-3 s message room e read h = of-accepted s message room e read h (Demand3 s (ask_of e)) (λ ok _. demand-3-of s (ask_of e) ok room)

-- ---- a message in a long run ----

-- WHAT IS ANSWERED AT A PLACE OF A RUN is what is answered for the 11 bytes that stand there
pub handled-at : (s : Series) (front message rest room : List ℕ) → length message ≡ 11
    → handled_at s (front ++ (message ++ rest)) (length front) room ≡ handled s message room
handled-at s front message rest room n =
    ap (λ (l : List ℕ). handled s l room) (ap (take 11) (drop-append_seam front (message ++ rest)) ∙ take_at message rest 11 n)

-- "a place with fewer than 11 bytes from it to the run's end holds a message of wrong length"
pub handled-at-end : (s : Series) (run : List ℕ) (at : ℕ) (room : List ℕ) → room_size ≤ length room → sound_series s ≡ true → length run < at + 11
    → handled_at s run at room ≡ refused 1 s room
handled-at-end s run at room space sound h =
    handled-nothing s (message_at run at) room space sound (unpack-short messages (drop at run) (simp length-drop (omega arith)))

-- "length not 11"
pub handled-length : (s : Series) (message room : List ℕ) → room_size ≤ length room → sound_series s ≡ true → (length message ≡ 11 → ⊥)
    → handled s message room ≡ refused 1 s room
handled-length s message room space sound h = handled-nothing s message room space sound (unpack-other messages message h)
