-- WHAT THE TRAINEE IS TOLD IS TRUE, for every accepted message and every place below the count: "the stated comparison holds, and of the tests that were put to
-- that entry on that arrival none earlier in document 01's order does."
-- Assumes nothing.
use Prim.Native.Nat.{ℕ, zero, suc, ◌+◌, ◌*◌, ◌≤◌, ◌<◌}
use mathlib.Core.Path.{◌≡◌, refl, sym, ap, subst, ◌∙◌}
use mathlib.Core.Bool.{true}
use mathlib.Core.List.{List, []}
use Rattle.std.specs.Prelude.{Option, None, Some}
use native.Mathlib.Omega.{arith}
use Rattle.std.specs.Prelude.{Ok, Err}
use lib.ListN.{take, drop}
use lib.Seq.{drop-drop}
use borrow.Author.Tests.{eq-eqb, ne_eqb, le-leb, lt-leb}
use Rattle.prices.specs.declared.Figures.{Figures}
use Rattle.prices.specs.Test.{Test, figures_of}
use Rattle.prices.proofs.TableLaws.{FirstTest}
use Rattle.kinds.specs.Kinds.{enters}
use Rattle.lists.specs.Tests.{All}
use Rattle.lists.proofs.Bools.{cond_either}
use Rattle.lists.proofs.TestLaws.{all_append}
use Rattle.packing.specs.declared.message.Event.{Event}
use Rattle.packing.specs.declared.report.Report.{Report}
use Rattle.packing.specs.declared.report.Report.TheVariants.{Noted, Rejected, Traded, Rested, Repriced, Cancelled}
use Rattle.packing.specs.Codec.{unpack_of}
use Rattle.packing.specs.Message.{messages}
use Rattle.packing.specs.Report.{reports, report_size}
use Rattle.packing.specs.Room.{report_at, read_back}
use Rattle.book.specs.declared.Entry.{Entry}
use Rattle.book.specs.Shape.{entries_of}
use Rattle.arrival.specs.Arrive.{book_left, arrived, tests_put}
use Rattle.arrival.proofs.HiddenLaws.{BestUndisplayed}
use Rattle.arrival.proofs.ReasonLaws.{stop-among, rejection-among}
use Rattle.arrival.proofs.ArriveTells.{arrived-says-why}
use Rattle.arrival.proofs.TableTold.{Told, rejection-told, rest-told, no-figures}
use Rattle.series.specs.declared.Series.{Series}
use Rattle.handler.specs.declared.Ask.{Ask}
use Rattle.handler.specs.Asked.{ask_of}
use Rattle.handler.specs.Accept.{comer_of, done}
use Rattle.handler.specs.Handle.{Handled, handled}
use Rattle.handler.specs.Acts.{Accepted}
use Rattle.handler.proofs.Passed.{accepted-as, accepted-arriving}
use Rattle.handler.proofs.OwnPart.{own-tells}
use Rattle.handler.proofs.Demands.{own_of, settling_of, settling-says, OfReport, reports-hold}
use Rattle.why.specs.Reasons.{Why}
use Rattle.why.specs.Why.{found_tests, left_tests, given, reason_for, why_of, Explained, in_lent, explained_as, explained}

-- ---- what is claimed ----

-- A RULE THAT IS TOLD, of what the message enters: the number is the report's; its test is the first that holds, of the figures told, of those that were put to
-- the entry in document 01's order: price protection in the book that the message found, the others in the book in which the entry would post; and the
-- second figure of 21 is the price of an undisplayed entry there, to which none is better
pub record TrueRule (s : Series) (a : Ask) (posting : List Entry) (why : ℕ) (w : Why) : Type 0 where
  pub enters : enters a.kind ≡ true
  pub figures : Figures
  pub told : w ≡ given why figures
  pub first : FirstTest (comer_of s a).sell (tests_put s.terms (comer_of s a) (entries_of s.book) posting) why figures
  pub best : why ≡ 21 → BestUndisplayed (comer_of s a).sell posting figures.second

-- of a cancelled report: up to 26 it is the entry's own rest, told in the book that its trades left, with the replaced quote gone; from 27 on two zeros
pub record TrueCancel (s : Series) (a : Ask) (number why : ℕ) (w : Why) : Type 0 where
  pub rest : why ≤ 26 → (number ≡ (comer_of s a).number) × TrueRule s a (book_left s.terms (comer_of s a) (entries_of s.book)) why w
  pub zeros : 27 ≤ why → w ≡ given why (record { first = 0; second = 0 })

-- WHAT IS TOLD OF EACH REPORT: of a rejection 20 to 26, told in the book that the message found
abbrev pub TrueOf : Series → Ask → Report → Why → Type 0
TrueOf s a Noted w = w ≡ None
TrueOf s a (Rejected why sell party number limit quantity) w = (number ≡ (comer_of s a).number) × ((why ≤ 26) × TrueRule s a (entries_of s.book) why w)
TrueOf s a (Traded sell party number other price quantity) w = w ≡ None
TrueOf s a (Rested sell party number display working quantity) w = w ≡ None
TrueOf s a (Repriced sell party number display working quantity) w = w ≡ None
TrueOf s a (Cancelled why sell party number limit quantity) w = TrueCancel s a number why w

-- ---- of each report of the definition ----

module _ (s : Series) (a : Ask) (ok : Accepted s a) where
  abbrev Holds : Report → Type 0
  Holds r = TrueOf s a r (reason_for s a r)

  told-true : (k : enters a.kind ≡ true) (posting : List Entry) (why : ℕ) → Told s.terms (comer_of s a) (entries_of s.book) posting why
      → (xs : List Test)
      → xs ≡ tests_put s.terms (comer_of s a) (entries_of s.book) posting → TrueRule s a posting why (given why (figures_of why xs))
  told-true k posting why x xs same = record {
    enters = k;
    figures = figures_of why (tests_put s.terms (comer_of s a) (entries_of s.book) posting);
    told = ap (λ (ys : List Test). given why (figures_of why ys)) same;
    first = x.first;
    best = x.best;
  }

  -- 27 to 31
  no-price : (number why : ℕ) → 27 ≤ why → TrueCancel s a number why (given why (figures_of why (left_tests s a)))
  unfolding figures_of
  no-price number why h = record {
    rest = λ low. absurd (omega arith);
    zeros = λ _. ap (given why) (cond_either (λ (xs : List Test). figures_of why xs ≡ record { first = 0; second = 0 }) (enters a.kind)
        (tests_put s.terms (comer_of s a) (entries_of s.book) (book_left s.terms (comer_of s a) (entries_of s.book))) []
        (λ _. no-figures s.terms (comer_of s a) (entries_of s.book) (book_left s.terms (comer_of s a) (entries_of s.book)) why h) (λ _. refl));
  }

  arrival-true : enters a.kind ≡ true → All Holds (arrived s.terms (comer_of s a) (entries_of s.book)).records
  arrival-true k =
      arrived-says-why s.terms (comer_of s a) (entries_of s.book) Holds (record {
        rejects = λ q why given h. (
          refl,
          (
            omega (arith, h, (rejection-among s.terms (comer_of s a) (entries_of s.book)).most),
            told-true k (entries_of s.book) why (rejection-told (accepted-arriving s a ok k) why given h) (found_tests s a) (rw k refl),
          ),
        );
        cancels = λ q why own side x o w. no-price x.number why own;
        trades = λ mi y q w. refl;
        rests = λ left h. refl;
        stops = λ why left r. record {
          rest = λ low. (
            refl,
            told-true k (book_left s.terms (comer_of s a) (entries_of s.book)) why (rest-told (accepted-arriving s a ok k) why left r) (left_tests s a)
                (rw k refl),
          );
          zeros = λ high. absurd (omega (
            arith,
            r.reason,
            (stop-among s.terms (comer_of s a) (book_left s.terms (comer_of s a) (entries_of s.book))).most,
          ));
        };
      })

  done-true : All Holds (done s.terms a (entries_of s.book)).records
  unfolding done
  done-true =
      all_append Holds (own_of s a).records (settling_of s a).records
      (own-tells s.terms a (entries_of s.book) Holds arrival-true refl (λ why h x. no-price x.number why h))
      (settling-says s a ok Holds (λ x. refl) (λ x y q. refl))

-- ---- of the report at a place ----

read_at : (n : ℕ) (room : List ℕ) (at : ℕ) → at < n → (P : Option Report → Type 0) → All P (read_back n room) → P (report_at room at)
read_at zero room at h P a = absurd (omega arith)
read_at (suc n) room zero h P a = a.0
read_at (suc n) room (suc at) h P a =
    subst P (ap (λ (l : List ℕ). unpack_of reports (take report_size l)) (drop-drop (report_size * at) 14 room ∙ ap (λ (k : ℕ). drop k room) ahead))
    (read_at n (drop report_size room) at (omega arith) P a.1)
  where
    ahead : 14 + report_size * at ≡ report_size * suc at
    ahead = omega arith

-- THE ROOM IS THE HANDLER'S, A REPORT STANDS AT THE PLACE, and what is told of it is true
pub record WhyTrue (s : Series) (a : Ask) (place : ℕ) (h : Handled) (x : Explained) : Type 0 where
  pub same-room : x.room ≡ h.room
  pub report : Report
  pub there : report_at h.room place ≡ Some report
  pub reason : Why
  pub told : x.why ≡ Ok reason
  pub true-of-it : TrueOf s a report reason

-- what is told where nothing is refused
pub told_of : (s : Series) (message room : List ℕ) (place : ℕ) (e : Event) → unpack_of messages message ≡ Some e → (handled s message room).answer.refusal ≡ 0
    → place < (handled s message room).answer.count
    → explained s message place room ≡ in_lent (Ok (why_of s (Some e) (report_at (handled s message room).room place))) (handled s message room).room
unfolding explained explained_as handled
told_of s message room place e read free more =
    rw (
      eq-eqb (handled s message room).answer.refusal 0 free,
      lt-leb (handled s message room).answer.count place more,
      read,
    ) refl

pub why-true : (s : Series) (message room : List ℕ) (place : ℕ) (e : Event) → unpack_of messages message ≡ Some e → (handled s message room).answer.refusal ≡ 0
    → place < (handled s message room).answer.count → WhyTrue s (ask_of e) place (handled s message room) (explained s message place room)
why-true s message room place e read free more =
    subst (WhyTrue s (ask_of e) place (handled s message room)) (sym (told_of s message room place e read free more))
    (by (report_at (handled s message room).room place) refl
    (read_at (handled s message room).answer.count (handled s message room).room place more (OfReport Said)
    (reports-hold s message room e read free Said (done-true s (ask_of e) (accepted-as s message room e read free)))))
  where
    Said : Report → Type 0
    Said r = TrueOf s (ask_of e) r (reason_for s (ask_of e) r)

    by : (o : Option Report) → report_at (handled s message room).room place ≡ o → OfReport Said o
        → WhyTrue s (ask_of e) place (handled s message room)
        (in_lent (Ok (why_of s (Some e) (report_at (handled s message room).room place))) (handled s message room).room)
    by None q h = absurd h
    by (Some r) q h =
        record {
          same-room = refl;
          report = r;
          there = q;
          reason = reason_for s (ask_of e) r;
          told = ap (λ (x : Option Report). Ok (why_of s (Some e) x)) q;
          true-of-it = h;
        }

-- ---- "Refusals: 12, place at or beyond the count, tested after the message's own refusals" ----

-- the message's own come first, and the room is as it stood
pub why-refused : (s : Series) (message room : List ℕ) (place : ℕ) → ((handled s message room).answer.refusal ≡ 0 → ⊥)
    → explained s message place room ≡ in_lent (Err (handled s message room).answer.refusal) room
unfolding explained explained_as handled
why-refused s message room place h = rw (ne_eqb (handled s message room).answer.refusal 0 h, ne_eqb (handled s message room).answer.refusal 0 h) refl

-- and then 12
pub why-12 : (s : Series) (message room : List ℕ) (place : ℕ) → (handled s message room).answer.refusal ≡ 0 → (handled s message room).answer.count ≤ place
    → explained s message place room ≡ in_lent (Err 12) room
unfolding explained explained_as handled
why-12 s message room place free past =
    rw (eq-eqb (handled s message room).answer.refusal 0 free, le-leb (handled s message room).answer.count place past) refl
