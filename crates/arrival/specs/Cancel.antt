-- Cancelling: an entry goes, with a report of its own.
-- Assumes nothing.
use Rattle.std.specs.Prelude.{ℕ, Option, Some, None, Bool, true, false, cond, List, [], ◌∷◌, eqb, get_or}
use Rattle.lists.specs.Places.{without}
use Rattle.lists.specs.Tests.{count}
use Rattle.lists.specs.Choose.{Found, nowhere, found}
use Rattle.lists.specs.Run.{Step, stop, go, Ran, still, ran}
use Rattle.packing.specs.declared.report.Report.{Report}
use Rattle.book.specs.declared.Entry.{Entry}
use Rattle.book.specs.Entries.{quote}
use Rattle.book.specs.declared.Book.{Book}
use Rattle.book.specs.Shape.{zero_entry, entries_of, WellFormed, Place}
use Rattle.book.specs.Look.{entry_of, quote_in, lowest}
use Rattle.telling.specs.Tell.{cancelled}
use Rattle.telling.specs.Stage.{Roomy}

-- what was found goes, for a reason; nothing happens where nothing was
unfoldable pub cut : ℕ → List Entry → Found Entry → Ran (List Entry) Report
cut why l nowhere = still l
cut why l (found i e) = record { final = without i l; records = cancelled why e ∷ [] }

-- what stands at a place goes
abbrev pub cut_at : ℕ → List Entry → ℕ → Ran (List Entry) Report
cut_at why l i = record { final = without i l; records = cancelled why (get_or l i zero_entry) ∷ [] }

-- what stands at a rank goes; nothing happens where there is none
abbrev pub cut_rank : ℕ → List Entry → Option ℕ → Ran (List Entry) Report
cut_rank why l None = still l
cut_rank why l (Some i) = cut_at why l i

abbrev pub Inside : Book → Option ℕ → Type 0
Inside b None = Unit {0}
Inside b (Some i) = Place b i

-- what the functions ask of their callers: a well-formed book, with room for the stage's reports; and for `cut_at` a place that is used
pub record Asks (x : Ran (List Entry) Report) (b : Book) (room : List ℕ) (n : ℕ) : Type 0 where
  pub well : WellFormed b
  pub roomy : Roomy room n x.records

pub record Cuts (why : ℕ) (b : Book) (i : ℕ) (room : List ℕ) (n : ℕ) : Type 0 where
  pub place : Place b i
  pub roomy : Roomy room n (cut_at why (entries_of b) i).records

pub record CutsRank (why : ℕ) (b : Book) (rank : Option ℕ) (room : List ℕ) (n : ℕ) : Type 0 where
  pub well : WellFormed b
  pub inside : Inside b rank
  pub roomy : Roomy room n (cut_rank why (entries_of b) rank).records

-- a maker's quote on a side
abbrev pub cut_quote : ℕ → ℕ → Bool → List Entry → Ran (List Entry) Report
cut_quote why party s l = cut why l (quote_in party s l)

-- kinds 7 and 8: "28 owner asked"
abbrev pub cancel_entry : ℕ → ℕ → List Entry → Ran (List Entry) Report
cancel_entry party number l = cut 28 l (entry_of party number l)

abbrev pub cancel_quote : ℕ → Bool → List Entry → Ran (List Entry) Report
cancel_quote party s l = cut_quote 28 party s l

-- "Phase 0 cancels everything, phase 2 every quote, phase 1 nothing; a repeated phase does the same." The phase that the series is in is not asked
abbrev pub swept : ℕ → Entry → Bool
swept phase e = cond (eqb phase 0) true (cond (eqb phase 2) (quote e) false)

-- "then 31s by entry"
abbrev pub sweep_at : List Entry → Found Entry → Step (List Entry) Report
sweep_at l nowhere = stop
sweep_at l (found i e) = go (cancelled 31 e) (without i l)

unfoldable pub next_sweep : ℕ → List Entry → Step (List Entry) Report
next_sweep phase l = sweep_at l (lowest (swept phase) l)

unfoldable pub sweep : ℕ → List Entry → Ran (List Entry) Report
sweep phase l = ran (next_sweep phase) (count (swept phase)) l
