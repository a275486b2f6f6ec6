-- THE BOOK AS LINES: what the board of a class is drawn from, and what other programs read.
-- Assumes nothing.
use Rattle.std.specs.Prelude.{ℕ, ◌+◌, Bool, cond, not, ◌&&◌, ◌||◌, List, [], ◌∷◌, ◌++◌, eqb, ltb, length}
use Rattle.std.specs.Bool.{beq}
use Rattle.lists.specs.Choose.{scan, counting}
use Rattle.book.specs.declared.Book.{Book}
use Rattle.book.specs.declared.Entry.{Entry}
use Rattle.book.specs.Entries.{display}
use Rattle.book.specs.Shape.{entries_of}
use Rattle.book.specs.Look.{priority}
use Rattle.lines.specs.Lines.{field_line}
use Rattle.lines.specs.Buffer.{printed}

-- ---- who trades before whom ----

-- what decides who of one side trades first: the priority that a taker of the other side goes by
abbrev pub key : Entry → ℕ
key e = priority (not e.sell) e

-- f trades before e: it stands on e's side and has the lesser priority, or the same and an older rank
unfoldable pub before : Bool → Entry → Entry → Bool
before older f e = beq f.sell e.sell && (ltb (key f) (key e) || (older && eqb (key f) (key e)))

-- the same of an entry f of rank j and the entry e of rank i
abbrev pub before_at : ℕ → Entry → ℕ → Entry → Bool
before_at i e j f = before (ltb j i) f e

-- THE PLACE of the entry e of rank i: how many on its side trade before it
unfoldable pub place_of : List Entry → ℕ → Entry → ℕ
place_of l i e = scan (counting (before_at i e)) 0 0 l

-- ---- lines ----

-- `side place entry party kind limit display working quantity`: side 0 for a buy and 1 for a sell, display 0 for a dark entry
abbrev pub entry_fields : ℕ → Entry → List ℕ
entry_fields place e =
    cond e.sell 1 0 ∷ place ∷ e.number ∷ e.party ∷ e.kind ∷ e.limit ∷ display e ∷ e.working ∷ e.quantity ∷ []

-- the line of the entry e of rank i, among all that rest; the lines of the entries from rank i on
abbrev pub line_at : ℕ → List Entry → ℕ → Entry → List ℕ
line_at number all i e = field_line number (entry_fields (place_of all i e) e)

unfoldable pub entry_lines : ℕ → List Entry → ℕ → List Entry → List ℕ
entry_lines number all i [] = []
entry_lines number all i (e ∷ l) = line_at number all i e ++ entry_lines number all (i + 1) l

-- WHAT IS PRINTED OF A BOOK after message `number`: a line for each entry that rests, the oldest rank first
unfoldable pub board_text : ℕ → List Entry → List ℕ
board_text number l = entry_lines number l 0 l

-- where it ends, and the buffer afterwards; 0, and the buffer as it was, where that might be too short
abbrev pub board_printed : List ℕ → ℕ → ℕ → Book → ℕ × List ℕ
board_printed out at number b = printed out at (length (entries_of b)) (board_text number (entries_of b))
