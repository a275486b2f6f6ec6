-- The scan for the first least key of those that pass, as settling and sweeping ask for it by entry number, and a taker by priority: its start, a
-- turn of it, and its end. `least_of` of `look` goes by these. Then the same of entry numbers, in a book: `soonest-number` and `soonest-lowest`, the
-- case that docs/RULES cites, which no proof does.
-- Assumes nothing.
use Prim.Native.Nat.{ℕ, ◌+◌, ◌≤◌, ◌<◌}
use mathlib.Core.Path.{◌≡◌, refl, sym, ap, ◌∙◌}
use mathlib.Core.Bool.{Bool, true, false, cond}
use native.Mathlib.Omega.{arith}
use lib.ListN.{length, get_or, take}
use lib.Seq.{get_or-take, length-take-le}
use Rattle.std.specs.Prelude.{List, Option, None, Some, min}
use Rattle.std.specs.Option.{option_map}
use Rattle.std.proofs.lemmas.List.{take_all, length-take}
use Rattle.lists.specs.Choose.{scan, first, lesser, keyed}
use Rattle.book.specs.declared.Entry.{Entry}
use Rattle.book.specs.declared.Book.{Book}
use Rattle.book.specs.declared.Least.{Least}
use Rattle.book.specs.Shape.{zero_entry, entries_of, WellFormed}
use Rattle.book.specs.Look.{rank_of, lower_key, lowest}
use Rattle.book.proofs.LookLaws.{number, held_of, held_next, held-turn, held-rank}

-- what is held before place i
pub record Soonest (test : Entry → Bool) (key : Entry → ℕ) (l : List Entry) (held : Option Least) (i : ℕ) : Type 0 where
  pub so_far : held ≡ held_of key (first test (lesser key) (take i l))

pub soonest-start : {test : Entry → Bool} {key : Entry → ℕ} {l : List Entry} {held : Option Least} → held ≡ None → Soonest test key l held 0
unfolding first scan
soonest-start e = record { so_far = e }

module _ {test : Entry → Bool} {key : Entry → ℕ} {l : List Entry} {held : Option Least} {i : ℕ} (v : Soonest test key l held i) where
  pub soonest-turn : (d : Entry) → i < length l → {k : Option ℕ} {t : Option Least} → k ≡ keyed test key (get_or l i d) → t ≡ held_next held i k
      → Soonest test key l t (i + 1)
  soonest-turn d inside {k} {t} p s = record {
    so_far =
        s ∙ ap (held_next held i) p ∙ ap (λ (h : Option Least). held_next h i (keyed test key (get_or l i d))) v.so_far ∙ held-turn test key l i d inside;
  }

  pub soonest-end : length l ≤ i → {r : Option ℕ} → r ≡ option_map (λ (h : Least). h.at) held → r ≡ rank_of (first test (lesser key) l)
  soonest-end h e =
      e ∙ ap (option_map (λ (x : Least). x.at)) v.so_far ∙ held-rank key _ ∙ ap (λ (es : List Entry). rank_of (first test (lesser key) es)) (take_all i l h)

-- of entry numbers, in a book: an entry that does not pass changes nothing
module _ (b : Book) {test : Entry → Bool} {held : Option Least} {i : ℕ} (v : Soonest test number (entries_of b) held i) where
  pub soonest-number : WellFormed b → i < b.count → {passes : Bool} {t : Option Least} → passes ≡ test (get_or b.entries i zero_entry)
      → t ≡ cond passes (lower_key held i (get_or b.entries i zero_entry).number) held → Soonest test number (entries_of b) t (i + 1)
  unfolding entries_of
  soonest-number w inside {passes} {t} p s =
      soonest-turn v zero_entry long (ap (keyed test number) (sym (get_or-take b.count b.entries i zero_entry inside)))
      (s ∙ ap (λ (y : Bool). cond y (lower_key held i e.number) held) p ∙ one (test e))
    where
      e : Entry
      e = get_or b.entries i zero_entry

      one : (y : Bool) → cond y (lower_key held i e.number) held ≡ held_next held i (cond y (Some e.number) None)
      one true = refl
      one false = refl

      long : i < length (take b.count b.entries)
      long = let k : length (take b.count b.entries) ≡ b.count = length-take-le b.count b.entries (omega (arith, w.few, w.places)) in omega (arith, inside, k)

  pub soonest-lowest : b.count ≤ i → {r : Option ℕ} → r ≡ option_map (λ (h : Least). h.at) held → r ≡ rank_of (lowest test (entries_of b))
  unfolding lowest entries_of
  soonest-lowest h e =
      let k : length (take b.count b.entries) ≡ min b.count (length b.entries) = length-take b.count b.entries in
      soonest-end v (omega (arith, h, k)) e
