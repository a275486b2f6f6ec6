-- Laws of stages: the same by another name, a report put, a step as a stage, and one stage behind another.
-- Assumes nothing.
use Prim.Native.Nat.{ℕ, ◌+◌, ◌≤◌}
use mathlib.Core.Path.{◌≡◌, refl, sym, subst, ap, ◌∙◌}
use mathlib.Core.List.{List, [], ◌∷◌, ◌++◌}
use native.Mathlib.Omega.{arith}
use native.Mathlib.Nat.{add-zero}
use lib.ListN.{length, length-append}
use Rattle.lists.specs.Run.{Step, stop, go, Ran, still, and_then}
use Rattle.packing.specs.declared.report.Report.{Report}
use Rattle.packing.specs.Room.{written, room_after}
use Rattle.packing.proofs.RoomLaws.{length-written, written_none, written-append, put-there}
use Rattle.book.specs.declared.Entry.{Entry}
use Rattle.book.specs.declared.Book.{Book}
use Rattle.book.specs.Shape.{entries_of, book_of, WellFormed}
use Rattle.book.proofs.ShapeLaws.{book-of-entries, entries-of-book, holds}
use Rattle.telling.specs.Stage.{Roomy, Staged, Put, alone}
use Rattle.telling.proofs.PackLaws.{pack-left, pack-right}

-- ---- the same by another name ----

pub staged-as : {x y : Ran (List Entry) Report} {room room' : List ℕ} {n n' : ℕ} {after : Book} → x ≡ y → Staged x room n after room' n'
    → Staged y room n after room' n'
staged-as {x} {y} {room} {room'} {n} {n'} {after} e s = subst (λ (z : Ran (List Entry) Report). Staged z room n after room' n') e s

pub roomy-as : {rs ss : List Report} {room : List ℕ} {n : ℕ} → rs ≡ ss → Roomy room n rs → Roomy room n ss
roomy-as {rs} {ss} {room} {n} e r = subst (Roomy room n) e r

-- of one report, and of a step
pub roomy-told : {room : List ℕ} {n : ℕ} {r q : Report} → r ≡ q → Roomy room n (q ∷ []) → Roomy room n (r ∷ [])
roomy-told e h = roomy-as (ap (λ (x : Report). x ∷ []) (sym e)) h

pub staged-step : {room room' : List ℕ} {n n' : ℕ} {b' : Book} {x y : Step (List Entry) Report} (l : List Entry) → x ≡ y
    → Staged (alone l y) room n b' room' n' → Staged (alone l x) room n b' room' n'
staged-step l e h = staged-as (ap (alone l) (sym e)) h

pub roomy-step : {room : List ℕ} {n : ℕ} {x y : Step (List Entry) Report} (l : List Entry) → x ≡ y
    → Roomy room n (alone l x).records → Roomy room n (alone l y).records
roomy-step l e h = roomy-as (ap (λ (z : Step (List Entry) Report). (alone l z).records) e) h

-- ---- one report ----

pub put_is : {room room' : List ℕ} {n : ℕ} {r : Report} → Roomy room n (r ∷ []) → room' ≡ room_after room n r → Put room n r room' (n + 1)
put_is {room} {room'} {n} {r} h e = record { bytes = e ∙ (put-there room n r (omega (arith, h.space)) h.fit.0).1; count = refl }

-- ---- one step, or none ----

pub staged-go : {room room' : List ℕ} {n n' : ℕ} {b' : Book} {r q : Report} (l t : List Entry) → r ≡ q → Put room n r room' n' → b' ≡ book_of t
    → length t ≤ 64 → Staged (alone l (go q t)) room n b' room' n'
staged-go {room} {n = n} l t told p e fits = record {
  book = e;
  well = (holds e fits).well;
  bytes = p.bytes ∙ ap (λ (x : Report). written room n (x ∷ [])) told;
  count = p.count;
}

pub staged-none : (b : Book) (room : List ℕ) (n : ℕ) → WellFormed b → Staged (still (entries_of b)) room n b room n
unfolding still
staged-none b room n w = record { book = book-of-entries b w; well = w; bytes = sym (written_none room n); count = sym (add-zero n) }

pub staged-stop : {room : List ℕ} {n : ℕ} {b : Book} → WellFormed b → Staged (alone (entries_of b) stop) room n b room n
unfolding still
staged-stop {room} {n} {b} w = staged-none b room n w

-- ---- one stage behind another ----

module _ {room : List ℕ} {n : ℕ} (rs ss : List Report) (r : Roomy room n (rs ++ ss)) where
  pub roomy-first : Roomy room n rs
  roomy-first = record { space = omega (arith, r.space, length-append rs ss); fit = pack-left rs ss r.fit }

  pub roomy-then : (room' : List ℕ) (n' : ℕ) → room' ≡ written room n rs → n' ≡ n + length rs → Roomy room' n' ss
  roomy-then room' n' e f = record {
    space = omega (arith, r.space, length-append rs ss, ap length e, length-written room n rs);
    fit = pack-right rs ss r.fit;
  }

module _ {x : Ran (List Entry) Report} {room : List ℕ} {n : ℕ} {after : Book} {room' : List ℕ} {n' : ℕ} (s : Staged x room n after room' n') where
  pub staged-list : entries_of after ≡ x.final
  staged-list = ap entries_of s.book ∙ entries-of-book x.final

  -- behind it comes another, which starts from what it left
  pub staged-then : (f : List Entry → Ran (List Entry) Report) {last : Book} {room'' : List ℕ} {n'' : ℕ}
      → Staged (f (entries_of after)) room' n' last room'' n''
      → Staged (and_then x f) room n last room'' n''
  staged-then f {last} {room''} {n''} t = record {
    book = subst (λ (l : List Entry). last ≡ book_of (f l).final) staged-list t.book;
    well = t.well;
    bytes = subst (λ (l : List Entry). room'' ≡ written room n (x.records ++ (f l).records)) staged-list
        (t.bytes ∙ ap (λ (r : List ℕ). written r n' (f (entries_of after)).records) s.bytes
        ∙ ap (λ (k : ℕ). written (written room n x.records) k (f (entries_of after)).records) s.count
        ∙ sym (written-append room n x.records (f (entries_of after)).records));
    count = subst (λ (l : List Entry). n'' ≡ n + length (x.records ++ (f l).records)) staged-list
        (omega (arith, t.count, s.count, length-append x.records (f (entries_of after)).records));
  }

  -- and finds the room it needs
  pub staged-room : (f : List Entry → Ran (List Entry) Report) → Roomy room n (and_then x f).records → Roomy room' n' (f (entries_of after)).records
  staged-room f r =
      subst (λ (l : List Entry). Roomy room' n' (f l).records) (sym staged-list)
      (roomy-then x.records (f x.final).records r room' n' s.bytes s.count)
