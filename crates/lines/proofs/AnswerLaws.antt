-- What is printed for a message: it finds room wherever the test says so, and of an accepted message it is the lines of its reports.
use Prim.Native.Nat.{ℕ, zero, suc, ◌+◌, ◌*◌, ◌^◌, ◌≤◌, ◌<◌}
use mathlib.Core.Bool.{Bool, true, false, cond}
use mathlib.Core.List.{List, [], ◌∷◌, ◌++◌, map}
use Rattle.std.specs.Prelude.{Option, None, Some}
use mathlib.Core.Path.{◌≡◌, refl, ap, ap₂}
use native.Mathlib.Nat.{pow-le-pow_right}
use native.Mathlib.Omega.{arith}
use borrow.Author.Tests.{leb-true, eq-eqb, ne_eqb}
use lib.Dec.{eqb}
use lib.ListN.{length, take, drop, length-append}
use Rattle.bits.specs.Fields.{Fit, Narrow, Bytes}
use Rattle.bits.proofs.ByteLaws.{bytes_take, bytes_drop}
use Rattle.packing.specs.declared.report.Report.{Report}
use Rattle.packing.specs.declared.report.Report.TheVariants.{Noted, Rejected, Traded, Rested, Repriced, Cancelled}
use Rattle.packing.specs.Codec.{unpack_of, packs}
use Rattle.packing.specs.Report.{reports, fields_of}
use Rattle.packing.specs.Room.{read_back, written, AllPack}
use Rattle.packing.proofs.CodecLaws.{packs-fit, unpack-pack, packed-bytes}
use Rattle.packing.proofs.ReportLaws.{lawful}
use Rattle.packing.proofs.RoomLaws.{reports-read-back}
use Rattle.io.specs.Counts.{IsPrefixLen}
use Rattle.lines.specs.Lines.{FitWord, report_line, refusal_line, line_of, report_lines, answer_text, lines_of}
use Rattle.lines.specs.Buffer.{TextPut, longest_line, roomy, printed, answer_printed}
use Rattle.lines.proofs.Counting.{counts}
use Rattle.lines.proofs.DecimalLaws.{decimal-length}
use Rattle.lines.proofs.BufferLaws.{printed-there, printed-nowhere, printed-length, printed-fits}
use Rattle.lines.proofs.LineLaws.{line-short, refusal-length}

-- no line is longer than 120 bytes: a report's fields are at most 20 bits
narrow-report : Narrow reports.widths
narrow-report =
    (omega arith, (omega arith, (omega arith, (omega arith, (omega arith, (omega arith, (omega arith, (omega arith, (omega arith, (omega arith, tt))))))))))

fields_fit : (ws xs zs : List ℕ) → Narrow ws → Fit ws (xs ++ zs) → FitWord xs
fields_fit ws [] zs n f = tt
fields_fit [] (x ∷ xs) zs n f = absurd f
fields_fit (w ∷ ws) (x ∷ xs) zs n f =
    let b : 2 ^ w ≤ 2 ^ 32 = pow-le-pow_right (omega arith) n.0 in
    (omega (arith, b, f.0), fields_fit ws xs zs n.1 f.1)

nine-fields : (r : Report) → length (fields_of r) ≡ 9
nine-fields Noted = refl
nine-fields (Rejected reason sell party entry limit quantity) = refl
nine-fields (Traded sell party entry other price quantity) = refl
nine-fields (Rested sell party entry display working quantity) = refl
nine-fields (Repriced sell party entry display working quantity) = refl
nine-fields (Cancelled reason sell party entry limit quantity) = refl

report-short : (number : ℕ) (r : Report) → number < 2 ^ 64 → packs reports r ≡ true → length (report_line number r) ≤ longest_line
unfolding report_line
report-short number r n h =
    line-short number (fields_of r) n (omega (arith, nine-fields r))
    (fields_fit reports.widths (fields_of r) (0 ∷ []) narrow-report (packs-fit reports r h).0)

pub refusal-short : (number refusal : ℕ) → number < 2 ^ 64 → refusal < 2 ^ 32 → length (refusal_line number refusal) ≤ longest_line
refusal-short number refusal n r =
    omega (arith, refusal-length number refusal, decimal-length 19 number (omega arith), decimal-length 9 refusal (omega arith))

place_short : (number : ℕ) (s : List ℕ) → number < 2 ^ 64 → Bytes s → length (line_of number (unpack_of reports s)) ≤ longest_line
place_short number s n b = by_cases (unpack_of reports s) refl
  where
    by_cases : (u : Option Report) → unpack_of reports s ≡ u → length (line_of number u) ≤ longest_line
    by_cases None e = omega arith
    by_cases (Some r) e = report-short number r n (packed-bytes reports r s (unpack-pack reports lawful s r b e)).0

lines-short : (number count : ℕ) (room : List ℕ) → number < 2 ^ 64 → Bytes room → length (report_lines number (read_back count room)) ≤ longest_line * count
lines-short number zero room n b = omega arith
lines-short number (suc count) room n b =
    omega (
      arith,
      length-append (line_of number (unpack_of reports (take 14 room))) (report_lines number (read_back count (drop 14 room))),
      place_short number (take 14 room) n (bytes_take 14 room b),
      lines-short number count (drop 14 room) n (bytes_drop 14 room b),
    )

-- what is printed is at most 120 bytes for each line
pub answer-short : (number refusal count : ℕ) (room : List ℕ) → number < 2 ^ 64 → refusal < 2 ^ 32 → Bytes room
    → length (answer_text number refusal count room) ≤ longest_line * lines_of refusal count
unfolding answer_text
answer-short number refusal count room n r b = by_cases (eqb refusal 0)
  where
    by_cases : (t : Bool) → length (cond t (report_lines number (read_back count room)) (refusal_line number refusal)) ≤ longest_line * cond t count 1
    by_cases true = lines-short number count room n b
    by_cases false = refusal-short number refusal n r

-- an accepted message's text, and a refused one's
pub accepted-text : (number refusal count : ℕ) (room : List ℕ) → refusal ≡ 0
    → (answer_text number refusal count room ≡ report_lines number (read_back count room)) × (lines_of refusal count ≡ count)
unfolding answer_text
accepted-text number refusal count room h =
    let e = eq-eqb refusal 0 h in
    (ap (λ (b : Bool). cond b (report_lines number (read_back count room)) (refusal_line number refusal)) e, ap (λ (b : Bool). cond b count 1) e)

pub refused-text : (number refusal count : ℕ) (room : List ℕ) → (refusal ≡ 0 → ⊥)
    → (answer_text number refusal count room ≡ refusal_line number refusal) × (lines_of refusal count ≡ 1)
unfolding answer_text
refused-text number refusal count room h =
    let e = ne_eqb refusal 0 h in
    (ap (λ (b : Bool). cond b (report_lines number (read_back count room)) (refusal_line number refusal)) e, ap (λ (b : Bool). cond b count 1) e)

-- WHAT `answer_lines` LEAVES: the text, or the buffer as it was
module _ (out : List ℕ) (at number refusal count : ℕ) (room : List ℕ) (lines : ℕ) (text : List ℕ)
    (is : (answer_text number refusal count room ≡ text) × (lines_of refusal count ≡ lines)) where
  answered-is : answer_printed out at number refusal count room ≡ printed out at lines text
  answered-is = ap₂ (λ (n : ℕ) (s : List ℕ). printed out at n s) is.1 is.0

  -- where the test says that there is room, there is
  pub answered-room : number < 2 ^ 64 → refusal < 2 ^ 32 → Bytes room → roomy (length out) at lines ≡ true → at + length text ≤ length out
  unfolding roomy
  answered-room n r b h =
      omega (arith, leb-true (at + longest_line * lines) (length out) h, answer-short number refusal count room n r b, ap length is.0, is.1)

  pub answered-there : {after : List ℕ} {end : ℕ} → roomy (length out) at lines ≡ true → TextPut out at text after end
      → (end ≡ (answer_printed out at number refusal count room).0) × (after ≡ (answer_printed out at number refusal count room).1)
  answered-there h p = rw answered-is (printed-there lines h p)

  pub answered-nowhere : roomy (length out) at lines ≡ false
      → (0 ≡ (answer_printed out at number refusal count room).0) × (out ≡ (answer_printed out at number refusal count room).1)
  answered-nowhere h = rw answered-is (printed-nowhere out text at lines h)

-- FOR CALLERS
-- the buffer's length stays
pub answer-length : (out : List ℕ) (at number refusal count : ℕ) (room : List ℕ) → length (answer_printed out at number refusal count room).1 ≡ length out
answer-length out at number refusal count room = printed-length out at (lines_of refusal count) (answer_text number refusal count room)

-- what is printed ends within the buffer
pub answer-fits : (out : List ℕ) (at number refusal count : ℕ) (room : List ℕ) → number < 2 ^ 64 → refusal < 2 ^ 32 → Bytes room
    → (answer_printed out at number refusal count room).0 ≤ length out
answer-fits out at number refusal count room n r b =
    printed-fits out at (lines_of refusal count) (answer_text number refusal count room) (answer-short number refusal count room n r b)

-- so the bytes up to its end can be lent
pub answered-counts : (out : List ℕ) (at number refusal count : ℕ) (room : List ℕ) {after : List ℕ} {end : ℕ} → number < 2 ^ 64 → refusal < 2 ^ 32 → Bytes room
    → (end ≡ (answer_printed out at number refusal count room).0) × (after ≡ (answer_printed out at number refusal count room).1)
    → (end ≡ (answer_printed out at number refusal count room).0) × ((after ≡ (answer_printed out at number refusal count room).1) × IsPrefixLen end after)
answered-counts out at number refusal count room {after} {end} n r b p = (
  p.0,
  (
    p.1,
    counts end after
        (omega (arith, p.0, ap length p.1, answer-length out at number refusal count room, answer-fits out at number refusal count room n r b)),
  ),
)

-- THEOREM. Of an accepted message whose reports stand in the room the lines of just these reports are printed, in their order
pub answer-reports : (number : ℕ) (room : List ℕ) (rs : List Report) → AllPack rs → 14 * length rs ≤ length room
    → answer_text number 0 (length rs) (written room 0 rs) ≡ report_lines number (map Some rs)
unfolding answer_text
answer-reports number room rs h k = ap (report_lines number) (reports-read-back room 0 rs h (omega arith))
