-- A stage of the handler takes the book and the lent reports, the room and the number of reports in it so far, and gives the book back; its
-- definition is a run, the entries that then rest and its reports in their order. These records say for every stage what it asks and what it ensures.
-- No rule of document 01 stands here, only words for contracts.
-- Assumes nothing.
use Rattle.std.specs.Prelude.{ℕ, ◌+◌, ◌*◌, ◌≤◌, ◌≡◌, List, [], ◌∷◌, length}
use Rattle.lists.specs.Run.{Step, stop, go, Ran}
use Rattle.packing.specs.declared.report.Report.{Report}
use Rattle.packing.specs.Room.{written, AllPack}
use Rattle.packing.specs.Report.{report_size}
use Rattle.book.specs.declared.Entry.{Entry}
use Rattle.book.specs.declared.Book.{Book}
use Rattle.book.specs.Shape.{book_of, WellFormed}

-- there is room for the reports behind the n that stand there, and each of their fields fits
pub record Roomy (room : List ℕ) (n : ℕ) (rs : List Report) : Type 0 where
  pub space : report_size * (n + length rs) ≤ length room
  pub fit : AllPack rs

-- what a stage with the definition x leaves: the book, every byte of the room, and the count
pub record Staged (x : Ran (List Entry) Report) (room : List ℕ) (n : ℕ) (after : Book) (room' : List ℕ) (n' : ℕ) : Type 0 where
  pub book : after ≡ book_of x.final
  pub well : WellFormed after
  pub bytes : room' ≡ written room n x.records
  pub count : n' ≡ n + length x.records

-- ---- one report, one step ----

-- the room and the count of reports with one report more
pub record Put (room : List ℕ) (n : ℕ) (r : Report) (room' : List ℕ) (n' : ℕ) : Type 0 where
  pub bytes : room' ≡ written room n (r ∷ [])
  pub count : n' ≡ n + 1

-- a step as a run of its own
abbrev pub alone : List Entry → Step (List Entry) Report → Ran (List Entry) Report
alone l stop = record { final = l; records = [] }
alone l (go r t) = record { final = t; records = r ∷ [] }
