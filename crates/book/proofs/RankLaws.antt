-- A rank that a search answered is a place of the book, and what stands there is what was found.
-- Assumes nothing.
use Prim.Native.Nat.{ℕ, ◌<◌}
use mathlib.Core.Path.{◌≡◌, refl, subst, ap, ◌∙◌}
use mathlib.Core.Bool.{Bool}
use mathlib.Core.List.{List}
use native.Mathlib.Omega.{arith}
use lib.ListN.{length, get_or}
use Rattle.lists.specs.Choose.{Found, nowhere, found}
use Rattle.lists.proofs.PlaceLaws.{at_same, at-inside, at-get_d}
use Rattle.lists.proofs.ChooseLaws.{Chosen, Tells}
use Rattle.book.specs.declared.Entry.{Entry}
use Rattle.book.specs.declared.Book.{Book}
use Rattle.std.specs.Prelude.{Some, None}
use Rattle.book.specs.Shape.{zero_entry, entries_of, WellFormed, Place}
use Rattle.book.specs.Look.{rank_of}
use Rattle.book.proofs.ShapeLaws.{length-entries, entry_at}

pub rank-none : (f : Found Entry) → None ≡ rank_of f → f ≡ nowhere
rank-none nowhere e = refl
rank-none (found j x) e = let z : ◌≡◌ {A = ℕ} 0 1 = cc in absurd (omega arith)

-- what was found is what stands at the place
pub record Ranked (l : List Entry) (f : Found Entry) (i : ℕ) : Type 0 where
  pub inside : i < length l
  pub is : f ≡ found i (get_or l i zero_entry)

pub rank-at : (test : Entry → Bool) (key : Entry → ℕ) (l : List Entry) (f : Found Entry) (i : ℕ) → Tells test key l f → Some i ≡ rank_of f → Ranked l f i
rank-at test key l nowhere i t e = let z : ◌≡◌ {A = ℕ} 0 1 = cc in absurd (omega arith)
rank-at test key l (found j x) i t e =
    let same : j ≡ i = cc in
    let inside : i < length l = rw same at (at-inside l j x t.there) in
    record {
      inside = inside;
      is = rw (same, at_same l i x (get_or l i zero_entry) (rw same at t.there) (at-get_d l i zero_entry inside));
    }

-- the same in a book, whose array has it
module _ (b : Book) (w : WellFormed b) (f : Found Entry) (i : ℕ) (r : Ranked (entries_of b) f i) where
  pub ranked-place : Place b i
  ranked-place = record { well = w; inside = omega (arith, r.inside, length-entries b w) }

  pub ranked-found : f ≡ found i (get_or b.entries i zero_entry)
  ranked-found = r.is ∙ ap (found i) (entry_at b i zero_entry ranked-place.inside)

  pub ranked-chosen : (test : Entry → Bool) (key : Entry → ℕ) → Tells test key (entries_of b) f
      → Chosen test key (entries_of b) i (get_or b.entries i zero_entry)
  ranked-chosen test key t = subst (Tells test key (entries_of b)) ranked-found t
