-- What a stage leaves of the lent reports: a book and reports by its definition, in the same room. No rule of document 01 stands here, only words for
-- contracts.
-- Assumes nothing.
use Rattle.std.specs.Prelude.{◌≡◌, List}
use Rattle.lists.specs.Run.{Ran}
use Rattle.packing.specs.declared.report.Report.{Report}
use Rattle.book.specs.declared.Entry.{Entry}
use Rattle.book.specs.declared.Book.{Book}
use Rattle.telling.specs.declared.room.Reports.{Reports}
use Rattle.telling.specs.Stage.{Staged}

-- what a stage with the definition x leaves, of the reports that it was lent
abbrev pub Told : Ran (List Entry) Report → Reports → Book → Reports → Type 0
Told x old after new = Staged x old.room.now old.count after new.room.now new.count

-- they stand in the room that was lent, and in no other: so what stands there is what its lender finds
abbrev pub SameRoom : Reports → Reports → Type 0
SameRoom old new = new.room.ghost_name ≡ old.room.ghost_name
