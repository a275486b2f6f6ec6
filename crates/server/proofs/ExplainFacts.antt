-- WHAT A C CALLER MAY RELY ON who asks why, said of `explain` for every buffer, message, place and room, beside what `serve` answers to the same.
-- Assumes nothing.
use Prim.Native.Nat.{ℕ, ◌≤◌, ◌<◌}
use mathlib.Core.Path.{◌≡◌, refl, sym, ap, ◌∙◌}
use mathlib.Core.Bool.{Bool, true, false, cond, not}
use mathlib.Core.List.{List}
use Rattle.std.specs.Prelude.{Option, None, Some}
use native.Mathlib.Omega.{arith}
use lib.Dec.{eqb, leb, ltb}
use lib.ListN.{length}
use borrow.Author.Tests.{eqb-true, eq-eqb, ne_eqb, le-leb, lt-leb}
use Rattle.std.specs.Prelude.{Ok}
use Rattle.packing.specs.declared.message.Event.{Event}
use Rattle.packing.specs.declared.report.Report.{Report}
use Rattle.packing.specs.declared.report.Report.TheVariants.{Noted, Rejected, Traded, Rested, Repriced, Cancelled}
use Rattle.packing.specs.Codec.{unpack_of}
use Rattle.packing.specs.Message.{messages}
use Rattle.packing.specs.Room.{room_size, report_at}
use Rattle.series.specs.declared.Series.{Series}
use Rattle.handler.specs.declared.Ask.{Ask}
use Rattle.handler.specs.Asked.{ask_of}
use Rattle.handler.specs.Handle.{Answered, Handled, first_of, handled_as, handled}
use Rattle.series_buffer.specs.State.{unpack_series}
use Rattle.why.specs.Why.{Explained, numbers_of, in_lent, unexplained, why_of, refusal_at, explained_by, explained_as, explained}
use Rattle.why.proofs.WhyTrue.{WhyTrue, why-true}
use Rattle.server.specs.Serve.{Served, unserved, packed_again, serve_in, serve_as, serve}
use Rattle.server.specs.Explain.{Reply, in_numbers, explain_in, explain_held, explain}

-- what is told of a report is never a refusal
told-accepted : (s : Series) (event : Option Event) (report : Option Report) → (numbers_of (Ok (why_of s event report))).refusal ≡ 0
told-accepted s None report = refl
told-accepted s (Some e) None = refl
told-accepted s (Some e) (Some Noted) = refl
told-accepted s (Some e) (Some (Rejected why sell party number limit quantity)) = refl
told-accepted s (Some e) (Some (Traded sell party number other price quantity)) = refl
told-accepted s (Some e) (Some (Rested sell party number display working quantity)) = refl
told-accepted s (Some e) (Some (Repriced sell party number display working quantity)) = refl
told-accepted s (Some e) (Some (Cancelled why sell party number limit quantity)) = refl

-- ---- the order of refusals ----

-- what is answered to why follows what the handler answers to the same message: its refusals, then "12, place at or beyond the count"; past them the room has
-- the handler's reports
pub record Follows (place : ℕ) (served : Served) (x : Reply) : Type 0 where
  pub own : (served.refusal ≡ 0 → ⊥) → x.numbers.refusal ≡ served.refusal
  pub beyond : served.refusal ≡ 0 → served.count ≤ place → x.numbers.refusal ≡ 12
  pub within : served.refusal ≡ 0 → place < served.count → x.numbers.refusal ≡ 0
  pub reports : served.refusal ≡ 0 → place < served.count → x.room ≡ served.room

refusal-own : (r : Answered) (place : ℕ) → (r.refusal ≡ 0 → ⊥) → refusal_at r place ≡ r.refusal
refusal-own r place n = ap (λ (b : Bool). first_of (not b) r.refusal (leb r.count place) 12) (ne_eqb r.refusal 0 n)

refusal-last : (r : Answered) (place : ℕ) → r.refusal ≡ 0 → (b : Bool) → leb r.count place ≡ b → refusal_at r place ≡ cond b 12 0
refusal-last r place z b q =
    ap (λ (c : Bool). first_of (not c) r.refusal (leb r.count place) 12) (eq-eqb r.refusal 0 z)
    ∙ ap (λ (c : Bool). cond c 12 0) q

module _ (s : Series) (event : Option Event) (place : ℕ) (room : List ℕ) (h : Handled) where
  -- by the refusal, and whether that is none
  abbrev told : ℕ → Bool → Reply
  told why accepts = in_numbers (cond accepts (in_lent (Ok (why_of s event (report_at h.room place))) h.room) (unexplained why room))

  told-refusal : (why : ℕ) (b : Bool) → eqb why 0 ≡ b → (told why b).numbers.refusal ≡ why
  told-refusal why true q = told-accepted s event (report_at h.room place) ∙ sym (eqb-true why 0 q)
  told-refusal why false q = refl

  handled-follows : (state : List ℕ) → Follows place (packed_again state h) (in_numbers (explained_by s event place room h))
  handled-follows state =
      let why = refusal_at h.answer place in
      let is = told-refusal why (eqb why 0) refl in
      record {
        own = λ n. is ∙ refusal-own h.answer place n;
        beyond = λ z l. is ∙ refusal-last h.answer place z true (le-leb h.answer.count place l);
        within = λ z l. is ∙ refusal-last h.answer place z false (lt-leb h.answer.count place l);
        reports = λ z l.
            ap (λ (b : Bool). (told why b).room) (eq-eqb why 0 (refusal-last h.answer place z false (lt-leb h.answer.count place l)));
      }

-- REFUSAL 12 COMES BEHIND ALL OTHERS, which are the handler's; accepted, the room is as the handler leaves it
pub why-follows : (state message : List ℕ) (place : ℕ) (room : List ℕ) → Follows place (serve state message room) (explain state message place room)
unfolding serve serve_as explain explain_held explained_as
why-follows state message place room = by (ltb (length room) room_size) (unpack_series state)
  where
    by : (c : Bool) (o : Option Series)
        → Follows place (cond c (unserved 10 state room) (serve_in state (unpack_of messages message) room o))
        (in_numbers (cond c (unexplained 10 room) (explain_in (unpack_of messages message) place room o)))
    by true o =
        record {
          own = λ n. refl;
          beyond = λ z l. absurd (omega (arith, z));
          within = λ z l. absurd (omega (arith, z));
          reports = λ z l. absurd (omega (arith, z));
        }
    by false None =
        record {
          own = λ n. refl;
          beyond = λ z l. absurd (omega (arith, z));
          within = λ z l. absurd (omega (arith, z));
          reports = λ z l. absurd (omega (arith, z));
        }
    by false (Some s) = handled-follows s (unpack_of messages message) place room (handled_as s (unpack_of messages message) room) state

-- ---- refusals ----

pub record Untold (room : List ℕ) (x : Reply) : Type 0 where
  pub rule : x.numbers.rule ≡ 0
  pub first : x.numbers.first ≡ 0
  pub second : x.numbers.second ≡ 0
  pub reports : x.room ≡ room

-- EVERY REFUSAL LEAVES THE ROOM AS IT STOOD, and rule and figures 0
pub why-refused-keeps : (state message : List ℕ) (place : ℕ) (room : List ℕ) → ((explain state message place room).numbers.refusal ≡ 0 → ⊥)
    → Untold room (explain state message place room)
unfolding explain explain_held explained_as
why-refused-keeps state message place room h = by (ltb (length room) room_size) (unpack_series state) h
  where
    keeps : (s : Series) (event : Option Event) (x : Handled) (why : ℕ) (b : Bool) → ((told s event place room x why b).numbers.refusal ≡ 0 → ⊥)
        → Untold room (told s event place room x why b)
    keeps s event x why true k = absurd (k (told-accepted s event (report_at x.room place)))
    keeps s event x why false k = record { rule = refl; first = refl; second = refl; reports = refl }

    by : (c : Bool) (o : Option Series)
        → ((in_numbers (cond c (unexplained 10 room) (explain_in (unpack_of messages message) place room o))).numbers.refusal ≡ 0 → ⊥)
        → Untold room (in_numbers (cond c (unexplained 10 room) (explain_in (unpack_of messages message) place room o)))
    by true o k = record { rule = refl; first = refl; second = refl; reports = refl }
    by false None k = record { rule = refl; first = refl; second = refl; reports = refl }
    by false (Some s) k =
        let x = handled_as s (unpack_of messages message) room in
        let why = refusal_at x.answer place in
        keeps s (unpack_of messages message) x why (eqb why 0) k

-- ---- what is told is true ----

-- the numbers are those of what the tool tells of the series in the buffer, and that is true (`why-true` of crate why)
pub record TrueReply (s : Series) (a : Ask) (place : ℕ) (h : Handled) (x : Reply) : Type 0 where
  pub explained : Explained
  pub told : x ≡ in_numbers explained
  pub true-of-it : WhyTrue s a place h explained

-- WHAT C IS TOLD IS TRUE, for every accepted message and every place below the count
pub why-serves-truth : (state message : List ℕ) (place : ℕ) (room : List ℕ) (s : Series) (e : Event) → unpack_series state ≡ Some s
    → unpack_of messages message ≡ Some e → (serve state message room).refusal ≡ 0 → place < (serve state message room).count
    → TrueReply s (ask_of e) place (handled s message room) (explain state message place room)
unfolding serve serve_as handled explain explain_held explained
why-serves-truth state message place room s e held read free more =
    rw held (by (ltb (length room) room_size) (rw held at free) (rw held at more))
  where
    by : (c : Bool) → (cond c (unserved 10 state room) (serve_in state (unpack_of messages message) room (Some s))).refusal ≡ 0
        → place < (cond c (unserved 10 state room) (serve_in state (unpack_of messages message) room (Some s))).count
        → TrueReply s (ask_of e) place (handled s message room)
        (in_numbers (cond c (unexplained 10 room) (explain_in (unpack_of messages message) place room (Some s))))
    by true z l = absurd (omega (arith, z))
    by false z l = record { explained = explained s message place room; told = refl; true-of-it = why-true s message room place e read z l }
