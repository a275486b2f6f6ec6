-- Cancelling what a search found, by its rank; and that a cancellation for another reason asks no more.
-- Assumes nothing.
use Prim.Native.Nat.{ℕ, ◌<◌}
use mathlib.Core.Path.{◌≡◌, refl}
use mathlib.Core.Bool.{Bool, true}
use mathlib.Core.List.{List}
use native.Mathlib.Omega.{arith}
use lib.ListN.{get_or}
use Rattle.lists.specs.Choose.{Found, nowhere, found}
use Rattle.lists.proofs.PlaceLaws.{at_same, at-inside, at-get_d}
use Rattle.lists.proofs.ChooseLaws.{Tells}
use Rattle.packing.specs.Codec.{packs}
use Rattle.packing.specs.Report.{reports}
use Rattle.packing.proofs.CodecLaws.{packs-fit, fit-packs}
use Rattle.book.specs.declared.Entry.{Entry}
use Rattle.book.specs.declared.Book.{Book}
use Rattle.std.specs.Prelude.{Option}
use Rattle.book.specs.Shape.{zero_entry, entries_of, WellFormed}
use Rattle.book.specs.Entries.{quote_of}
use Rattle.book.specs.Look.{rank_of, quote_in}
use Rattle.book.proofs.ShapeLaws.{length-entries}
use Rattle.book.proofs.LookLaws.{quote-tells}
use Rattle.telling.specs.Tell.{cancelled}
use Rattle.telling.specs.Stage.{Roomy, Staged}
use Rattle.arrival.specs.Cancel.{cut, cut_rank, Inside, cut_quote, Asks, CutsRank}
use Rattle.telling.proofs.StageLaws.{staged-as}

-- ---- what a search found goes, by its rank ----

module _ (test : Entry → Bool) (key : Entry → ℕ) (b : Book) (w : WellFormed b) where
  rank-inside : (f : Found Entry) (r : Option ℕ) → Tells test key (entries_of b) f → r ≡ rank_of f → Inside b r
  rank-inside nowhere r t e = rw e tt
  rank-inside (found i x) r t e = rw e (record { well = w; inside = omega (arith, at-inside (entries_of b) i x t.there, length-entries b w) })

  pub cut-rank : (why : ℕ) (f : Found Entry) (r : Option ℕ) → Tells test key (entries_of b) f → r ≡ rank_of f
      → cut_rank why (entries_of b) r ≡ cut why (entries_of b) f
  unfolding cut
  cut-rank why nowhere r t e = rw e refl
  cut-rank why (found i x) r t e =
      rw (
        e,
        at_same (entries_of b) i x (get_or (entries_of b) i zero_entry) t.there (at-get_d (entries_of b) i zero_entry (at-inside (entries_of b) i x t.there)),
      ) refl

  -- what cancelling it asks
  pub rank-cuts : (why : ℕ) (f : Found Entry) (r : Option ℕ) {room : List ℕ} {n : ℕ} → Tells test key (entries_of b) f → r ≡ rank_of f
      → Roomy room n (cut why (entries_of b) f).records → CutsRank why b r room n
  rank-cuts why f r t e h = record { well = w; inside = rank-inside f r t e; roomy = rw (cut-rank why f r t e) h }

-- ---- for another reason ----

cancelled-as : (why why' : ℕ) (e : Entry) → why' < 32 → packs reports (cancelled why e) ≡ true → packs reports (cancelled why' e) ≡ true
cancelled-as why why' e h p =
    let f = (packs-fit reports (cancelled why e) p).0 in fit-packs reports (cancelled why' e) (f.0, (h, f.1.1)) refl

pub roomy-reason : (why why' : ℕ) (l : List Entry) (f : Found Entry) {room : List ℕ} {n : ℕ} → why' < 32 → Roomy room n (cut why l f).records
    → Roomy room n (cut why' l f).records
unfolding cut
roomy-reason why why' l nowhere h r = r
roomy-reason why why' l (found i e) h r = record { space = r.space; fit = (cancelled-as why why' e h r.fit.0, tt) }

pub asks-reason : (why party : ℕ) (s : Bool) {b : Book} {room : List ℕ} {n : ℕ} (why' : ℕ) → why' < 32 → Asks (cut_quote why party s (entries_of b)) b room n
    → Asks (cut_quote why' party s (entries_of b)) b room n
asks-reason why party s {b} why' h a = record { well = a.well; roomy = roomy-reason why why' (entries_of b) (quote_in party s (entries_of b)) h a.roomy }

-- ---- a maker's quote ----

module _ (why party : ℕ) (s : Bool) {b : Book} {room : List ℕ} {n : ℕ} (r : Option ℕ) (is : r ≡ rank_of (quote_in party s (entries_of b))) where
  pub quote-cuts : Asks (cut_quote why party s (entries_of b)) b room n → CutsRank why b r room n
  quote-cuts a = rank-cuts (quote_of party s) (λ _. 0) b a.well why (quote_in party s (entries_of b)) r (quote-tells (entries_of b) party s) is a.roomy

  pub quote-cut : WellFormed b → {c : Book} {room' : List ℕ} {n' : ℕ} → Staged (cut_rank why (entries_of b) r) room n c room' n'
      → Staged (cut_quote why party s (entries_of b)) room n c room' n'
  quote-cut w x = staged-as (cut-rank (quote_of party s) (λ _. 0) b w why (quote_in party s (entries_of b)) r (quote-tells (entries_of b) party s) is) x
