-- The lines of a book, one by one, and how long they are.
-- Assumes nothing.
use Prim.Native.Nat.{ℕ, ◌+◌, ◌*◌, ◌^◌, ◌≤◌, ◌<◌}
use mathlib.Core.List.{List, [], ◌∷◌, ◌++◌}
use mathlib.Core.Bool.{true, false}
use mathlib.Core.Path.{◌≡◌, sym, ap, ◌∙◌}
use native.Mathlib.Omega.{arith}
use borrow.Author.Tests.{leb-true}
use lib.ListN.{length, drop, get_or, drop_of_length-le}
use lib.Seq.{drop-cons, length-take-le}
use native.Mathlib.Numerals.{add-one}
use Rattle.book.specs.declared.Book.{Book}
use Rattle.book.specs.declared.Entry.{Entry}
use Rattle.book.specs.Shape.{entries_of}
use Rattle.io.specs.Counts.{IsPrefixLen}
use Rattle.lines.specs.Lines.{FitWord, field_line}
use Rattle.lines.specs.Buffer.{TextPut, longest_line, roomy}
use Rattle.lines.proofs.Counting.{counts}
use Rattle.lines.proofs.BufferLaws.{printed-there, printed-nowhere}
use Rattle.lines.proofs.LineLaws.{line-short}
use Rattle.board.specs.Board.{place_of, entry_fields, line_at, entry_lines, board_text, board_printed}
use Rattle.board.specs.Held.{Resting}

-- the line that is put of an entry's fields is the entry's, and no longer than a line may be
module _ (number : ℕ) (e : Entry) {fields : List ℕ} {place : ℕ} (is : fields ≡ entry_fields place e) where
  pub line-is : (all : List Entry) (i : ℕ) → place ≡ place_of all i e → field_line number fields ≡ line_at number all i e
  line-is all i stands = ap (field_line number) (is ∙ ap (λ (p : ℕ). entry_fields p e) stands)

  pub line-few : number < 2 ^ 64 → FitWord (entry_fields place e) → length (field_line number fields) ≤ longest_line
  line-few n f = rw is (line-short number (entry_fields place e) n (omega arith) f)

-- ---- line by line ----

module _ (number : ℕ) (all : List Entry) where
  -- the lines that are left from rank i on
  abbrev pub left_from : ℕ → List ℕ
  left_from i = entry_lines number all i (drop i all)

  pub next-line : (i : ℕ) (d : Entry) → i < length all → left_from i ≡ line_at number all i (get_or all i d) ++ left_from (i + 1)
  unfolding entry_lines
  next-line i d h =
      let cut : drop i all ≡ get_or all i d ∷ drop (i + 1) all = rw (add-one i) (drop-cons all i d h) in
      ap (entry_lines number all i) cut

  pub no_line : (i : ℕ) → length all ≤ i → left_from i ≡ []
  unfolding entry_lines
  no_line i h = ap (entry_lines number all i) (drop_of_length-le all h)

-- ---- the whole ----

pub rests-count : {b : Book} {n : ℕ} → Resting b n → length (entries_of b) ≡ n
rests-count {b} {n} r = ap length (sym r.are) ∙ length-take-le n b.entries r.places

rests-few : {b : Book} {n : ℕ} → Resting b n → length (entries_of b) ≤ 64
rests-few r = omega (arith, rests-count r, r.few)

module _ {b : Book} {n : ℕ} (r : Resting b n) (out : List ℕ) (at number : ℕ) where
  -- where the test says that there is no room, the buffer stays
  pub not-printed : roomy (length out) at n ≡ false
      → (0 ≡ (board_printed out at number b).0) × ((out ≡ (board_printed out at number b).1) × (IsPrefixLen 0 out × (length (entries_of b) ≤ 64)))
  not-printed h =
      let p = printed-nowhere out (board_text number (entries_of b)) at (length (entries_of b)) (rw (rests-count r) h) in
      (p.0, (p.1, (counts 0 out (omega arith), rests-few r)))

  -- where it says that there is, there is, and the lines are put
  pub printed-room : roomy (length out) at n ≡ true → at + longest_line * n ≤ length out
  unfolding roomy
  printed-room h = leb-true (at + longest_line * n) (length out) h

  pub is-printed : {after : List ℕ} {end : ℕ} → roomy (length out) at n ≡ true → TextPut out at (board_text number (entries_of b)) after end
      → end ≤ length after
      → (end ≡ (board_printed out at number b).0) × ((after ≡ (board_printed out at number b).1) × (IsPrefixLen end after × (length (entries_of b) ≤ 64)))
  is-printed {after} {end} h put within =
      let p = printed-there (length (entries_of b)) (rw (rests-count r) h) put in
      (p.0, (p.1, (counts end after within, rests-few r)))
