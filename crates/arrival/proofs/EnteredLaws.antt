-- Laws of an arrival as the code goes about it: trades, an arrival that is not rejected, and either.
-- Assumes nothing.
use Prim.Native.Nat.{ℕ, ◌≤◌}
use mathlib.Core.Path.{◌≡◌, refl, sym, ap, subst, ◌∙◌}
use mathlib.Core.Bool.{Bool, true, false}
use mathlib.Core.List.{List}
use native.Mathlib.Omega.{arith}
use lib.ListN.{length}
use borrow.Author.Tests.{not-true, not-false}
use Rattle.prices.specs.declared.Market.{Market}
use Rattle.kinds.specs.Kinds.{minds}
use Rattle.lists.specs.Run.{Ran, still, and_then}
use Rattle.packing.specs.declared.report.Report.{Report}
use Rattle.packing.proofs.RoomLaws.{written_none}
use Rattle.book.specs.declared.Entry.{Entry}
use Rattle.book.specs.declared.Book.{Book}
use Rattle.book.specs.Shape.{entries_of}
use Rattle.book.specs.Look.{contra}
use Rattle.book.proofs.ShapeLaws.{length-entries, book-of-entries}
use Rattle.soundness_theory.proofs.Facts.{Sound}
use Rattle.telling.specs.Stage.{Roomy, Staged}
use Rattle.terms.specs.declared.Terms.{Terms}
use Rattle.arrival.specs.declared.Facing.{Facing}
use Rattle.terms.specs.Terms.{market_of}
use Rattle.arrival.specs.Cancel.{Asks}
use Rattle.arrival.specs.Take.{Taking, bound, taken, took}
use Rattle.arrival.specs.Post.{stop_for}
use Rattle.arrival.specs.Arrive.{rejected_by, replaced, finished, entered, rejection}
use Rattle.arrival.specs.Asks.{trades, Enters, Arrives, Goes, Takes, TakesOn, TookAs, taking_of, Finishes, LeftIn}
use Rattle.soundness_theory.proofs.MarketFacts.{sound-for}
use Rattle.telling.proofs.StageLaws.{roomy-first, staged-list, staged-then, staged-room, staged-as, roomy-as}
use Rattle.arrival.proofs.TakeLaws.{took-length}
use Rattle.arrival.proofs.Untraded.{none-took, takes-minds}
use Rattle.arrival.proofs.OwnSide.{still-contra, still-trades}
use Rattle.arrival.proofs.ArriveKeeps.{goes_on, entered-few, entered-fit}
use Rattle.arrival.proofs.EnterLaws.{arrived-enters, arrived-rejected, posts-of}

-- ---- trades ----

module _ {t : Terms} {e : Entry} {trading : Bool} {b : Book} {left : ℕ} {room : List ℕ} {n : ℕ} (a : TakesOn t e trading b left room n) where
  pub take_none : trading ≡ false → TookAs (took (market_of t) e (entries_of b)) room n b left room n
  unfolding still
  take_none q =
      subst (λ (x : Ran Taking Report). TookAs x room n b left room n)
      (sym (none-took (market_of t) e (entries_of b) (not-false _ (sym a.trades ∙ q))))
      (record { book = book-of-entries b a.well; well = a.well; left = a.whole; bytes = sym (written_none room n); count = omega arith })

  module _ (k : Market) (cap : ℕ) (q : trading ≡ true) (p : k ≡ market_of t) (w : cap ≡ bound k e) where
    same-run : taken cap e (taking_of left b) ≡ took (market_of t) e (entries_of b)
    unfolding took
    same-run = rw (takes-minds (market_of t) e (entries_of b) (not-true _ (sym a.trades ∙ q)), w, p, a.whole) refl

    pub take-asks : Takes (taken cap e (taking_of left b)) b room n
    take-asks = record { well = a.well; roomy = roomy-as (ap (λ (x : Ran Taking Report). x.records) (sym same-run)) a.roomy }

    pub take-took : {c : Book} {left' : ℕ} {room' : List ℕ} {n' : ℕ} → TookAs (taken cap e (taking_of left b)) room n c left' room' n'
        → TookAs (took (market_of t) e (entries_of b)) room n c left' room' n'
    take-took {c} {left'} {room'} {n'} x = subst (λ (y : Ran Taking Report). TookAs y room n c left' room' n') same-run x

-- ---- an arrival that is not rejected ----

module _ {t : Terms} {e : Entry} {f : Facing} {trading : Bool} {b : Book} {room : List ℕ} {n : ℕ} (a : Goes t e f trading b room n) where
  abbrev enters : Enters t e f b
  enters = a.decides.enters

  sound-before : Sound t.m t.given (entries_of b)
  sound-before = (sound-for (record { top = t.given; market = enters.arriving.market; entries = enters.arriving.entries })).1

  all_room : Roomy room n (and_then (replaced e (entries_of b)) (goes_on t e)).records
  unfolding entered
  all_room = a.roomy

  pub enter-replaces : Asks (replaced e (entries_of b)) b room n
  enter-replaces = record { well = enters.well; roomy = roomy-first (replaced e (entries_of b)).records _ all_room }

  module _ {c : Book} {room' : List ℕ} {n' : ℕ} (x : Staged (replaced e (entries_of b)) room n c room' n') where
    rest-of-room : Roomy room' n' (goes_on t e (entries_of c)).records
    rest-of-room = staged-room x (goes_on t e) all_room

    pub enter-takes : TakesOn t e trading c e.quantity room' n'
    enter-takes =
        record {
          well = x.well;
          whole = refl;
          trades = a.decides.trades ∙ sym (still-trades t e (entries_of b) sound-before) ∙ ap (trades t e) (sym (staged-list x));
          roomy = roomy-first (took (market_of t) e (entries_of c)).records _ rest-of-room;
        }

    module _ {d : Book} {left : ℕ} {room'' : List ℕ} {n'' : ℕ} (y : TookAs (took (market_of t) e (entries_of c)) room' n' d left room'' n'') where
      abbrev run : Ran Taking Report
      run = took (market_of t) e (entries_of c)

      taken-stage : Staged (record { final = run.final.book; records = run.records }) room' n' d room'' n''
      taken-stage = record { book = y.book; well = y.well; bytes = y.bytes; count = y.count }

      rests : entries_of d ≡ run.final.book
      rests = staged-list taken-stage

      abbrev ending : List Entry → Ran (List Entry) Report
      ending = finished t e run.final.left (stop_for t e run.final.book)

      same-ending : ending (entries_of d) ≡ finished t e left (stop_for t e (entries_of d)) (entries_of d)
      same-ending = rw (y.left, rests) refl

      -- a kind that minds C has not traded
      same-contra-after : minds e.kind ≡ true → f.contra ≡ contra e.sell (entries_of d)
      unfolding took still
      same-contra-after q =
          enters.faces.contra ∙ sym (still-contra t e (entries_of b) sound-before) ∙ ap (contra e.sell) (sym (staged-list x) ∙ sym (rests ∙ kept))
        where
          kept : run.final.book ≡ entries_of c
          kept = rw q refl

      pub enter-finishes : Finishes t e f.contra d left room'' n''
      enter-finishes = record {
        posts = posts-of enters d y.well same-contra-after;
        space = omega (
          arith,
          length-entries d y.well,
          ap length rests,
          took-length (market_of t) e (entries_of c),
          ap length (staged-list x),
          enters.arriving.space,
        );
        roomy = roomy-as (ap (λ (z : Ran (List Entry) Report). z.records) same-ending) (staged-room taken-stage ending rest-of-room);
      }

      -- what is left would post in that book
      pub enter-left : LeftIn t e f b d
      enter-left = record {
        left = rests ∙ ap (λ (r : List Entry). (took (market_of t) e r).final.book) (staged-list x);
        posts = enter-finishes.posts;
      }

      pub enter-done : {last : Book} {room''' : List ℕ} {n''' : ℕ}
          → Staged (finished t e left (stop_for t e (entries_of d)) (entries_of d)) room'' n'' last room''' n'''
          → Staged (entered t e (entries_of b)) room n last room''' n'''
      unfolding entered
      enter-done z = staged-then x (goes_on t e) (staged-then taken-stage ending (staged-as (sym same-ending) z))

-- room for the reports of an arrival is room for this one's, whether it is rejected or not
pub left-goes : {t : Terms} {e : Entry} {f : Facing} {b : Book} → Enters t e f b → (trading : Bool) → trading ≡ trades t e (entries_of b)
    → (room : List ℕ) → 938 ≤ length room → Goes t e f trading b room 0
left-goes n trading told room space = record {
  decides = record { enters = n; trades = told };
  roomy = record { space = omega (arith, entered-few n.arriving, space); fit = entered-fit n.arriving };
}

-- ---- either ----

module _ {t : Terms} {e : Entry} {f : Facing} {b : Book} {room : List ℕ} {n : ℕ} (a : Arrives t e f b room n) (why : ℕ)
    (is : why ≡ rejection t e (entries_of b)) where
  pub arrive-rejects : (why ≡ 0 → ⊥) → Asks (rejected_by why e (entries_of b)) b room n
  arrive-rejects h = record {
    well = a.enters.well;
    roomy = roomy-as (ap (λ (x : Ran (List Entry) Report). x.records) (arrived-rejected t e (entries_of b) why is h)) a.roomy;
  }

  pub arrive-enters : (trading : Bool) → trading ≡ trades t e (entries_of b) → why ≡ 0 → Goes t e f trading b room n
  arrive-enters trading told h = record {
    decides = record { enters = a.enters; trades = told };
    roomy = roomy-as (ap (λ (x : Ran (List Entry) Report). x.records) (arrived-enters t e (entries_of b) why is h)) a.roomy;
  }
