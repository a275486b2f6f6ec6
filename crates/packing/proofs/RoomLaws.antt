-- Reports in the room: what writing them one after the other leaves, and that they can be read back.
use Prim.Native.Nat.{ℕ, suc, ◌+◌, ◌-◌, ◌*◌, ◌/◌, ◌≤◌, ◌<◌}
use mathlib.Core.Bool.{Bool, true, false, cond, ◌&&◌, and-false}
use mathlib.Core.List.{List, [], ◌∷◌, ◌++◌, map, append_assoc, append-nil}
use Rattle.std.specs.Prelude.{Option, None, Some}
use mathlib.Core.Path.{◌≡◌, refl, sym, ap, ap₂, ◌∙◌}
use native.Mathlib.Nat.{add-zero}
use native.Mathlib.Omega.{arith}
use borrow.Author.Tests.{le-leb, lt-leb}
use lib.Dec.{leb}
use lib.ListN.{length, take, drop, set, length-append, length-drop}
use lib.Seq.{sets, length-sets, sets-eq, take_at, drop_at, length-take-le}
use Rattle.packing.specs.declared.report.Report.{Report}
use Rattle.packing.specs.Codec.{bytes_of, packs, unpack_of}
use Rattle.packing.specs.Report.{reports, report_size, code_of}
use Rattle.packing.specs.Room.{packed_all, written, is_put, room_after, AllPack, report_at, read_back}
use Rattle.packing.proofs.CodecLaws.{length-bytes, pack-packs, pack-unpack, unpack-short}
use Rattle.packing.proofs.ReportLaws.{lawful}

length-report : (r : Report) → length (bytes_of reports (code_of r)) ≡ report_size
length-report r = length-bytes reports lawful (code_of r)

pub length-packed_all : (rs : List Report) → length (packed_all rs) ≡ report_size * length rs
unfolding packed_all
length-packed_all [] = refl
length-packed_all (r ∷ rs) = omega (arith, length-append (bytes_of reports (code_of r)) (packed_all rs), length-report r, length-packed_all rs)

pub packed_all-append : (rs ss : List Report) → packed_all (rs ++ ss) ≡ packed_all rs ++ packed_all ss
unfolding packed_all
packed_all-append [] ss = refl
packed_all-append (r ∷ rs) ss =
    ap (λ (l : List ℕ). bytes_of reports (code_of r) ++ l) (packed_all-append rs ss)
    ∙ sym (append_assoc (bytes_of reports (code_of r)) (packed_all rs) (packed_all ss))

-- one row of stores, and then another behind it
pub sets-append : (l : List ℕ) (i : ℕ) (vs ws : List ℕ) → sets l i (vs ++ ws) ≡ sets (sets l i vs) (i + length vs) ws
sets-append l i [] ws = ap (λ (k : ℕ). sets l k ws) (sym (add-zero i))
sets-append l i (v ∷ vs) ws =
    sets-append (set l i v) (suc i) vs ws
    ∙ ap (λ (k : ℕ). sets (sets (set l i v) (suc i) vs) k ws) (omega arith)

-- the length of the room stays
pub length-written : (room : List ℕ) (at : ℕ) (rs : List Report) → length (written room at rs) ≡ length room
unfolding written
length-written room at rs = length-sets room (report_size * at) (packed_all rs)

-- no report leaves the room as it was
pub written_none : (room : List ℕ) (at : ℕ) → written room at [] ≡ room
unfolding written packed_all
written_none room at = refl

-- rs, and then ss behind them, is rs ++ ss, whatever the room's length
pub written-append : (room : List ℕ) (at : ℕ) (rs ss : List Report) → written room at (rs ++ ss) ≡ written (written room at rs) (at + length rs) ss
unfolding written
written-append room at rs ss =
    ap (λ (l : List ℕ). sets room (report_size * at) l) (packed_all-append rs ss)
    ∙ sets-append room (report_size * at) (packed_all rs) (packed_all ss)
    ∙ ap (λ (k : ℕ). sets (sets room (report_size * at) (packed_all rs)) k (packed_all ss)) (omega (arith, length-packed_all rs))

-- THE THREE PARTS: what stands before, the reports, and what stands behind, as it was
pub written-parts : (room : List ℕ) (at : ℕ) (rs : List Report) → report_size * (at + length rs) ≤ length room
    → written room at rs ≡ take (report_size * at) room ++ packed_all rs ++ drop (report_size * (at + length rs)) room
unfolding written
written-parts room at rs h =
    sets-eq (packed_all rs) room (report_size * at) (omega (arith, length-packed_all rs))
    ∙ ap (λ (k : ℕ). take (report_size * at) room ++ packed_all rs ++ drop k room) end
  where
    end : report_size * at + length (packed_all rs) ≡ report_size * (at + length rs)
    end = omega (arith, length-packed_all rs)

read-packed : (rs : List Report) (rest : List ℕ) → AllPack rs → read_back (length rs) (packed_all rs ++ rest) ≡ map Some rs
unfolding packed_all
read-packed [] rest h = refl
read-packed (r ∷ rs) rest h =
    let b : List ℕ = bytes_of reports (code_of r) in
    let a : (b ++ packed_all rs) ++ rest ≡ b ++ (packed_all rs ++ rest) = append_assoc b (packed_all rs) rest in
    let first : take report_size ((b ++ packed_all rs) ++ rest) ≡ b = ap (take report_size) a
    ∙ take_at b (packed_all rs ++ rest) report_size (length-report r) in
    let others : drop report_size ((b ++ packed_all rs) ++ rest) ≡ packed_all rs ++ rest =
    ap (drop report_size) a ∙ drop_at b (packed_all rs ++ rest) report_size (length-report r) in
    ap₂ {C = List (Option Report)} (λ (u : Option Report) (us : List (Option Report)). u ∷ us)
    (ap (unpack_of reports) first ∙ pack-unpack reports lawful r b (pack-packs reports r h.0))
    (ap (read_back (length rs)) others ∙ read-packed rs rest h.1)

-- THEOREM. Reports whose fields fit, written to a room that has their places, are read back from there one by one
pub reports-read-back : (room : List ℕ) (at : ℕ) (rs : List Report) → AllPack rs → report_size * (at + length rs) ≤ length room
    → read_back (length rs) (drop (report_size * at) (written room at rs)) ≡ map Some rs
reports-read-back room at rs h k =
    ap (read_back (length rs)) behind ∙ read-packed rs (drop (report_size * (at + length rs)) room) h
  where
    before : length (take (report_size * at) room) ≡ report_size * at
    before = length-take-le (report_size * at) room (omega arith)

    behind : drop (report_size * at) (written room at rs) ≡ packed_all rs ++ drop (report_size * (at + length rs)) room
    behind =
        ap (drop (report_size * at))
        (written-parts room at rs k ∙ append_assoc (take (report_size * at) room) (packed_all rs) (drop (report_size * (at + length rs)) room))
        ∙ drop_at (take (report_size * at) room) (packed_all rs ++ drop (report_size * (at + length rs)) room) (report_size * at) before

-- PUTTING ONE REPORT: a place that is not wholly in the room or a field that does not fit, and otherwise
pub put-nowhere : (room : List ℕ) (at : ℕ) (r : Report) → length room < report_size * (at + 1) → (is_put room at r ≡ false) × (room_after room at r ≡ room)
unfolding is_put
put-nowhere room at r h =
    let e : (leb (report_size * (at + 1)) (length room) && packs reports r) ≡ false = ap (λ (b : Bool). b && packs reports r) (lt-leb _ _ h) in
    (e, ap (λ (b : Bool). cond b (written room at (r ∷ [])) room) e)

pub put-unfit : (room : List ℕ) (at : ℕ) (r : Report) → packs reports r ≡ false → (is_put room at r ≡ false) × (room_after room at r ≡ room)
unfolding is_put
put-unfit room at r h =
    let e : (leb (report_size * (at + 1)) (length room) && packs reports r) ≡ false =
    ap (λ (b : Bool). leb (report_size * (at + 1)) (length room) && b) h ∙ and-false (leb (report_size * (at + 1)) (length room)) in
    (e, ap (λ (b : Bool). cond b (written room at (r ∷ [])) room) e)

pub put-there : (room : List ℕ) (at : ℕ) (r : Report) → report_size * (at + 1) ≤ length room → packs reports r ≡ true
    → (is_put room at r ≡ true) × (room_after room at r ≡ written room at (r ∷ []))
unfolding is_put
put-there room at r h k =
    let e : (leb (report_size * (at + 1)) (length room) && packs reports r) ≡ true = ap₂ ◌&&◌ (le-leb _ _ h) k in
    (e, ap (λ (b : Bool). cond b (written room at (r ∷ [])) room) e)

-- fourteen stores are the one report
pub written_one : (room : List ℕ) (at : ℕ) (r : Report) → sets room (report_size * at) (bytes_of reports (code_of r)) ≡ written room at (r ∷ [])
unfolding written packed_all
written_one room at r = ap (λ (l : List ℕ). sets room (report_size * at) l) (sym (append-nil (bytes_of reports (code_of r))))

-- ---- one place of the room ----

-- no report stands where the room has not the bytes for it
pub no_place : (room : List ℕ) (at : ℕ) → length room / 14 ≤ at → report_at room at ≡ None
no_place room at h = unpack-short reports (drop (report_size * at) room) (rw length-drop (omega arith))

-- the part of the room that is handed to the unpacker
pub place-part : (room : List ℕ) (at : ℕ) (u : Option Report)
    → u ≡ unpack_of reports (take (report_size * at + 14 - report_size * at) (drop (report_size * at) room))
    → u ≡ report_at room at
place-part room at u h = h ∙ ap (λ (n : ℕ). unpack_of reports (take n (drop (report_size * at) room))) long
  where
    long : report_size * at + 14 - report_size * at ≡ 14
    long = omega arith
