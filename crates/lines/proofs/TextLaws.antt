-- Texts put behind the one that stands in a lent buffer, one after the other.
use Prim.Native.Nat.{ℕ, ◌+◌, ◌*◌, ◌≤◌, ◌<◌}
use mathlib.Core.List.{List, [], ◌++◌}
use mathlib.Core.Path.{◌≡◌, refl, ◌∙◌}
use native.Mathlib.Omega.{arith}
use lib.ListN.{length}
use Rattle.lines.specs.declared.text.Text.{Text}
use Rattle.lines.specs.Buffer.{HasRoom, Puts, longest_line, HasLines, PutsLines}
use Rattle.lines.proofs.BufferLaws.{put_then, room-front, room-behind}
use Rattle.lines.proofs.BufferLaws.{Going, going_start, going-turn, going_done, going-left, going-length, going-room}

-- one text behind another
pub puts_then : {t u v : Text} {a b : List ℕ} → Puts t a u → Puts u b v → Puts t (a ++ b) v
puts_then p q = record { put = put_then p.put q.put; same_buffer = q.same_buffer ∙ p.same_buffer }

-- a text that finds room, and its first part put: the second finds room behind it
pub front : (t : Text) (a b : List ℕ) → HasRoom t (a ++ b) → HasRoom t a
front t a b h = room-front t.out.now t.end a b h

pub behind : {t u : Text} {a : List ℕ} (b : List ℕ) → Puts t a u → HasRoom t (a ++ b) → HasRoom u b
behind b p h = room-behind b p.put h

-- A LOOP THAT PUTS A TEXT PART BY PART: what is left of it, put where the loop stands, gives what the whole text gives
pub record Putting (start : Text) (text : List ℕ) (now : Text) (left : List ℕ) : Type 0 where
  pub going : Going start.out.now start.end text now.out.now now.end left
  pub same_buffer : now.out.ghost_name ≡ start.out.ghost_name

pub putting_start : {start : Text} {text left : List ℕ} → text ≡ left → Putting start text start left
putting_start {start} {text} {left} e = record { going = going-left e (going_start start.out.now start.end text); same_buffer = refl }

pub putting-turn : {start now next : Text} {text left : List ℕ} (part rest : List ℕ) → left ≡ part ++ rest
    → Putting start text now left → Puts now part next → Putting start text next rest
putting-turn part rest e g p = record { going = going-turn part rest e g.going p.put; same_buffer = p.same_buffer ∙ g.same_buffer }

pub putting_done : {start now : Text} {text left : List ℕ} → left ≡ [] → Putting start text now left → Puts start text now
putting_done e g = record { put = going_done (going-left e g.going); same_buffer = g.same_buffer }

pub putting-length : {start now : Text} {text left : List ℕ} → Putting start text now left → length now.out.now ≡ length start.out.now
putting-length g = going-length g.going

-- the part that comes next has its room
pub putting-room : {start now : Text} {text left : List ℕ} (part rest : List ℕ) → left ≡ part ++ rest
    → Putting start text now left → HasRoom start text → HasRoom now part
putting-room part rest e g h = going-room part rest e g.going h

-- ---- lines, no longer than so many may be ----

-- a line that is no longer
pub one-line : {old new : Text} {line : List ℕ} → length line ≤ longest_line → Puts old line new → PutsLines old 1 line new
one-line h p = record { puts = p; upper_bound = omega (arith, h, p.put.ends) }

-- where there is room for so many, there is for fewer; and so many are no more than more
pub fewer : (old : Text) {few more : ℕ} → few ≤ more → HasLines old more → HasLines old few
fewer old e h = omega (arith, e, h)

pub no-more : {old new : Text} {few more : ℕ} {text : List ℕ} → few ≤ more → PutsLines old few text new → PutsLines old more text new
no-more e p = record { puts = p.puts; upper_bound = omega (arith, e, p.upper_bound) }

-- a loop that puts line by line, after so many
pub record PuttingLines (start : Text) (lines : ℕ) (text : List ℕ) (now : Text) (left : List ℕ) : Type 0 where
  pub putting : Putting start text now left
  pub upper_bound : now.end ≤ start.end + longest_line * lines

pub lines_start : {start : Text} {text left : List ℕ} → text ≡ left → PuttingLines start 0 text start left
lines_start e = record { putting = putting_start e; upper_bound = omega arith }

pub lines-room : {start now : Text} {k lines : ℕ} {text left : List ℕ} → k < lines → PuttingLines start k text now left → HasLines start lines → HasLines now 1
lines-room e g h = omega (arith, e, g.upper_bound, h, putting-length g.putting)

pub lines-turn : {start now next : Text} {k : ℕ} {text left : List ℕ} (part rest : List ℕ) → left ≡ part ++ rest
    → PuttingLines start k text now left → PutsLines now 1 part next → PuttingLines start (k + 1) text next rest
lines-turn part rest e g p =
    record { putting = putting-turn part rest e g.putting p.puts; upper_bound = omega (arith, g.upper_bound, p.upper_bound) }

pub lines_done : {start now : Text} {k : ℕ} {text left : List ℕ} (lines : ℕ) → k ≤ lines → left ≡ [] → PuttingLines start k text now left
    → PutsLines start lines text now
lines_done lines few e g = record { puts = putting_done e g.putting; upper_bound = omega (arith, few, g.upper_bound) }
