-- The room that a caller lends for reports: report number `at`, counted from 0, has the 14 bytes from 14 * at on.
use Rattle.std.specs.Prelude.{ℕ, zero, suc, ◌+◌, ◌*◌, Bool, true, cond, ◌&&◌, List, [], ◌∷◌, ◌++◌, ◌≡◌, leb, length, take, drop}
use Rattle.std.specs.Prelude.{Option}
use Rattle.std.proofs.lemmas.List.Edits.{sets}
use Rattle.packing.specs.declared.report.Report.{Report}
use Rattle.packing.specs.Codec.{bytes_of, packs, unpack_of}
use Rattle.packing.specs.Report.{reports, report_size, code_of}

-- "report room under 31,920 bytes (2,280 reports of 14)": what no message needs more than, and so what a caller must lend. It is asked of
-- the whole room where a message is handled; a single report is put wherever its place is
abbrev pub most_reports : ℕ
most_reports = 2280

abbrev pub room_size : ℕ
room_size = most_reports * report_size

-- the bytes of reports, one after the other
unfoldable pub packed_all : List Report → List ℕ
packed_all [] = []
packed_all (r ∷ rs) = bytes_of reports (code_of r) ++ packed_all rs

-- THE ROOM AFTERWARDS: the reports rs stored from place `at` on, byte after byte, and every other byte as it was.
-- (`sets room i bs` is the room after bs is stored from byte i on; what would lie past the room's end is not stored)
unfoldable pub written : List ℕ → ℕ → List Report → List ℕ
written room at rs = sets room (report_size * at) (packed_all rs)

-- a report is put if its place lies wholly in the room and each of its fields fits
unfoldable pub is_put : List ℕ → ℕ → Report → Bool
is_put room at r = leb (report_size * (at + 1)) (length room) && packs reports r

abbrev pub room_after : List ℕ → ℕ → Report → List ℕ
room_after room at r = cond (is_put room at r) (written room at (r ∷ [])) room

-- each of these reports has only fields that fit
abbrev pub AllPack : List Report → Type 0
AllPack [] = Unit {0}
AllPack (r ∷ rs) = (packs reports r ≡ true) × AllPack rs

-- what stands at place `at` of the room: a report, or none
abbrev pub report_at : List ℕ → ℕ → Option Report
report_at room at = unpack_of reports (take report_size (drop (report_size * at) room))

-- what n reports in a row unpack to
abbrev pub read_back : ℕ → List ℕ → List (Option Report)
read_back zero s = []
read_back (suc n) s = unpack_of reports (take report_size s) ∷ read_back n (drop report_size s)
