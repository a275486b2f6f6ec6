-- Laws of the book's operations: the array that the code makes is the book that holds the list of the definition, and what that gives the next call.
-- Assumes nothing.
use Prim.Native.Nat.{ℕ, zero, suc, ◌+◌, ◌-◌, ◌≤◌, ◌<◌}
use mathlib.Core.Path.{◌≡◌, refl, sym, ap, ◌∙◌}
use mathlib.Core.Bool.{Bool, true, false, cond}
use mathlib.Core.List.{List, [], ◌∷◌, ◌++◌, append_assoc}
use native.Mathlib.Numerals.{add-one}
use native.Mathlib.Nat.{sub-zero, suc-sub-suc}
use borrow.Rule.Slice.PartMut.{mid_of, put_mid}
use native.Mathlib.Omega.{arith}
use borrow.Author.Tests.{le-leb, lt-leb}
use lib.Dec.{leb, ltb}
use lib.ListN.{length, take, drop, get_or, set, replicate, length-append, length-set, take-append-drop}
use lib.Seq.{set_split, take-set-lt, drop-set-lt}
use Rattle.lists.specs.Places.{without, requeue}
use Rattle.lists.proofs.PlaceLaws.{length-snoc, length_without, drop-one-more}
use Rattle.book.specs.declared.Entry.{Entry}
use Rattle.book.specs.declared.Book.{Book}
use Rattle.book.specs.Entries.{lessened}
use Rattle.book.specs.Shape.{zero_entry, entries_of, book_of, WellFormed, Space, Place}
use Rattle.book.specs.Change.{post, hit, hit_both}
use Rattle.book.proofs.ShapeLaws.{same-book, length-entries, fits-64, entry_at}

-- ---- posting ----

pub posts : (b : Book) (e : Entry) → Space b
    → ◌≡◌ {A = Book} (record { entries = set b.entries b.count e; count = b.count + 1 }) (book_of (post e (entries_of b)))
unfolding book_of entries_of
posts b e p =
    let w : WellFormed b = p.well in
    let n : length (take b.count b.entries) ≡ b.count = length-entries b w in
    let inside : b.count < length b.entries = omega (arith, w.places, p.space) in
    let tail : drop (b.count + 1) b.entries ≡ replicate (64 - b.count - 1) zero_entry =
    drop-one-more b.entries b.count (64 - b.count) zero_entry w.unused in
    let room : 64 - b.count - 1 ≡ 64 - (b.count + 1) = omega arith in
    same-book
    (set_split b.entries b.count e inside ∙ rw (← add-one, tail, length-append, n, append_assoc, room) refl)
    (rw (length-append, n) refl)

-- ---- taking out ----

-- it takes the place of what stands at i of the first n, and these turn by one: it stands last of them
turned : {A : Type 0} (i n : ℕ) (es : List A) (e : A) → i < n → n ≤ length es
    → put_mid i (n - i) (set es i e) (drop 1 (mid_of i (n - i) (set es i e)) ++ take 1 (mid_of i (n - i) (set es i e)))
    ≡ requeue i e (take n es) ++ drop n es
unfolding without
turned i zero es e h f = absurd (omega arith)
turned i (suc n) [] e h f = absurd (omega arith)
turned zero (suc n) (x ∷ l) e h f = rw sub-zero refl
turned {A} (suc i) (suc n) (x ∷ l) e h f = rw suc-sub-suc (ap (λ (r : List A). x ∷ r) (turned i n l e (omega arith) (omega arith)))

pub requeues : (b : Book) (i : ℕ) (e : Entry) (ys : List Entry) → Place b i
    → ys ≡ drop 1 (mid_of i (b.count - i) (set b.entries i e)) ++ take 1 (mid_of i (b.count - i) (set b.entries i e))
    → ◌≡◌ {A = Book} (record { entries = put_mid i (b.count - i) (set b.entries i e) ys; count = b.count }) (book_of (requeue i e (entries_of b)))
unfolding book_of entries_of
requeues b i e ys p h =
    let w : WellFormed b = p.well in
    let long : length (take b.count b.entries) ≡ b.count = length-entries b w in
    let size : length (requeue i e (take b.count b.entries)) ≡ b.count =
    let l = take b.count b.entries in
    omega (arith, long, p.inside, length-snoc (without i l) e, length_without i l (omega (arith, long, p.inside))) in
    same-book
    (ap (put_mid i (b.count - i) (set b.entries i e)) h ∙ turned i b.count b.entries e p.inside (omega (arith, w.few, w.places))
    ∙ rw (size, w.unused) refl)
    (sym size)

-- without the zero entry that came last
pub drops : (b : Book) (l : List Entry) → b ≡ book_of (l ++ (zero_entry ∷ [])) → length l < 64
    → ◌≡◌ {A = Book} (record { entries = b.entries; count = b.count - 1 }) (book_of l)
unfolding book_of
drops b l e h =
    let n : length (l ++ (zero_entry ∷ [])) ≡ suc (length l) = length-snoc l zero_entry in
    let unused : 64 - length l ≡ suc (64 - suc (length l)) = omega arith in
    same-book
    (ap (λ (r : Book). r.entries) e ∙ rw (n, unused, append_assoc) refl)
    (ap (λ (r : Book). r.count - 1) e ∙ omega (arith, n))

-- ---- trading away ----

hit-all : (i q : ℕ) (l : List Entry) (d : Entry) → i < length l → (get_or l i d).quantity ≤ q → hit i q l ≡ without i l
unfolding hit without
hit-all i q [] d h k = absurd (omega arith)
hit-all zero q (x ∷ l) d h k = rw (le-leb x.quantity q k) refl
hit-all (suc i) q (x ∷ l) d h k = ap (λ (r : List Entry). x ∷ r) (hit-all i q l d (omega arith) k)

hit-some : (i q : ℕ) (l : List Entry) (d : Entry) → i < length l → q < (get_or l i d).quantity → hit i q l ≡ set l i (lessened q (get_or l i d))
unfolding hit
hit-some i q [] d h k = absurd (omega arith)
hit-some zero q (x ∷ l) d h k = rw (lt-leb x.quantity q k) refl
hit-some (suc i) q (x ∷ l) d h k = ap (λ (r : List Entry). x ∷ r) (hit-some i q l d (omega arith) k)

inside-list : (b : Book) (i : ℕ) → Place b i → i < length (entries_of b)
inside-list b i p = omega (arith, length-entries b p.well, p.inside)

replaces : (b : Book) (i : ℕ) (e : Entry) → Place b i
    → ◌≡◌ {A = Book} (record { entries = set b.entries i e; count = b.count }) (book_of (set (entries_of b) i e))
unfolding book_of entries_of
replaces b i e p =
    let w : WellFormed b = p.well in
    let h : i < b.count = p.inside in
    let n : length (take b.count b.entries) ≡ b.count = length-entries b w in
    same-book
    (sym (take-append-drop b.count (set b.entries i e)) ∙ rw (take-set-lt, drop-set-lt, length-set, n, w.unused) refl)
    (rw (length-set, n) refl)

module _ (b : Book) (i q : ℕ) (p : Place b i) where
  pub takes_all : (get_or b.entries i zero_entry).quantity ≤ q → without i (entries_of b) ≡ hit i q (entries_of b)
  takes_all h = sym (hit-all i q (entries_of b) zero_entry (inside-list b i p) (rw (entry_at b i zero_entry p.inside) h))

  pub takes-some : q < (get_or b.entries i zero_entry).quantity
      → ◌≡◌ {A = Book} (record { entries = set b.entries i (lessened q (get_or b.entries i zero_entry)); count = b.count }) (book_of (hit i q (entries_of b)))
  takes-some h =
      replaces b i (lessened q (get_or b.entries i zero_entry)) p
      ∙ ap book_of (sym (hit-some i q (entries_of b) zero_entry (inside-list b i p) (rw (entry_at b i zero_entry p.inside) h)
      ∙ ap (λ (e : Entry). set (entries_of b) i (lessened q e)) (entry_at b i zero_entry p.inside)))

-- ---- what the next call asks ----

pub length-hit : (i q : ℕ) (l : List Entry) → (length (hit i q l) ≤ length l) × (length l ≤ length (hit i q l) + 1)
unfolding hit
length-hit i q [] = (omega arith, omega arith)
length-hit zero q (x ∷ l) = pick (leb x.quantity q)
  where
    pick : (t : Bool) → (length (cond t l (lessened q x ∷ l)) ≤ suc (length l)) × (suc (length l) ≤ length (cond t l (lessened q x ∷ l)) + 1)
    pick true = (omega arith, omega arith)
    pick false = (omega arith, omega arith)
length-hit (suc i) q (x ∷ l) = let h = length-hit i q l in (omega (arith, h.0), omega (arith, h.1))

pub length_both : (i j q : ℕ) (l : List Entry) → length (hit_both i j q l) ≤ length l
unfolding hit_both
length_both i j q l = pick (ltb i j)
  where
    pick : (t : Bool) → length (cond t (hit i q (hit j q l)) (hit j q (hit i q l))) ≤ length l
    pick true = omega (arith, (length-hit i q (hit j q l)).0, (length-hit j q l).0)
    pick false = omega (arith, (length-hit j q (hit i q l)).0, (length-hit i q l).0)

-- each leaves at most 64, so that `holds` turns what an operation ensures into what the next one asks
module _ (b : Book) where
  pub post-fits : (e : Entry) → Space b → length (post e (entries_of b)) ≤ 64
  post-fits e p = omega (arith, length-snoc (entries_of b) e, length-entries b p.well, p.space)

  pub without-fits : (i : ℕ) → Place b i → suc (length (without i (entries_of b))) ≤ 64
  without-fits i p = omega (arith, length_without i (entries_of b) (inside-list b i p), fits-64 b p.well)

  pub requeue-fits : (i : ℕ) (e : Entry) → Place b i → length (requeue i e (entries_of b)) ≤ 64
  requeue-fits i e p = omega (arith, length-snoc (without i (entries_of b)) e, without-fits i p)

  pub hit-fits : (i q : ℕ) → WellFormed b → length (hit i q (entries_of b)) ≤ 64
  hit-fits i q w = omega (arith, (length-hit i q (entries_of b)).0, fits-64 b w)

  pub both-fits : (i j q : ℕ) → WellFormed b → length (hit_both i j q (entries_of b)) ≤ 64
  both-fits i j q w = omega (arith, length_both i j q (entries_of b), fits-64 b w)
