-- The buffer that a caller lends for text.
-- No rule of document 01 stands here, only words for contracts.
use Rattle.std.specs.Prelude.{ℕ, ◌+◌, ◌*◌, Bool, cond, List, ◌≡◌, ◌≤◌, leb, length}
use Rattle.std.proofs.lemmas.List.Edits.{sets}
use Rattle.packing.specs.Room.{most_reports}
use Rattle.lines.specs.Lines.{answer_text, lines_of}
use Rattle.lines.specs.declared.text.Text.{Text}

-- a text is put into a buffer: its bytes stand from `at` on, every other byte is as it was, and `end` is where it ends
pub record TextPut (out : List ℕ) (at : ℕ) (text after : List ℕ) (end : ℕ) : Type 0 where
  pub stored : after ≡ sets out at text
  pub ends : end ≡ at + length text

-- a text finds room behind the one that a lent buffer has
abbrev pub HasRoom : Text → List ℕ → Type 0
HasRoom old text = old.end + length text ≤ length old.out.now

-- it is put behind that one, in the same buffer: so what stands there is what its lender finds
pub record Puts (old : Text) (text : List ℕ) (new : Text) : Type 0 where
  pub put : TextPut old.out.now old.end text new.out.now new.end
  pub same_buffer : new.out.ghost_name ≡ old.out.ghost_name

-- no line is longer: 20 digits of the message's number, nine fields of at most 10 digits with a space before each, and the line's end
abbrev pub longest_line : ℕ
longest_line = 120

-- and no message has more lines than reports, or the one of its refusal
abbrev pub longest_answer : ℕ
longest_answer = most_reports * longest_line

-- behind the text that a lent buffer has there are so many bytes for each of so many lines
abbrev pub HasLines : Text → ℕ → Type 0
HasLines old lines = old.end + longest_line * lines ≤ length old.out.now

-- a text of so many lines is put there, no longer than so many may be
pub record PutsLines (old : Text) (lines : ℕ) (text : List ℕ) (new : Text) : Type 0 where
  pub puts : Puts old text new
  pub upper_bound : new.end ≤ old.end + longest_line * lines

-- there are so many bytes for each of so many lines from `at` on
unfoldable pub roomy : ℕ → ℕ → ℕ → Bool
roomy size at lines = leb (at + longest_line * lines) size

-- WHERE THE TEXT ENDS, AND THE BUFFER AFTERWARDS: the text stored from `at` on; 0, and the buffer as it was, where it might be too short
unfoldable pub printed : List ℕ → ℕ → ℕ → List ℕ → ℕ × List ℕ
printed out at lines text = cond (roomy (length out) at lines) (at + length text, sets out at text) (0, out)

-- the same of what is printed for a message
abbrev pub answer_printed : List ℕ → ℕ → ℕ → ℕ → ℕ → List ℕ → ℕ × List ℕ
answer_printed out at number refusal count room = printed out at (lines_of refusal count) (answer_text number refusal count room)
