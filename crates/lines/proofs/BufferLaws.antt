-- Texts put into a buffer one after the other.
use Prim.Native.Nat.{ℕ, ◌+◌, ◌-◌, ◌*◌, ◌/◌, ◌≤◌, ◌<◌}
use mathlib.Core.Bool.{Bool, true, false, cond}
use mathlib.Core.List.{List, [], ◌∷◌, ◌++◌}
use mathlib.Core.Path.{◌≡◌, refl, sym, ap, ap₂, ◌∙◌, subst}
use native.Mathlib.Omega.{arith}
use borrow.Author.Tests.{leb-true, leb-false, le-leb, lt-leb}
use lib.Dec.{leb}
use lib.ListN.{length, set, length-append}
use lib.Seq.{sets, length-sets}
use Rattle.packing.proofs.RoomLaws.{sets-append}
use Rattle.lines.specs.Buffer.{TextPut, longest_line, roomy, printed}

-- no text, one byte, one text behind another
pub put-none : (out : List ℕ) (at : ℕ) → TextPut out at [] out at
put-none out at = record { stored = refl; ends = omega arith }

-- No proof cites it: the check finds it for `byte` of text.rt. It stands beside the other two, for a text that is put byte by byte.
pub put_byte : (out : List ℕ) (at b : ℕ) → TextPut out at (b ∷ []) (set out at b) (at + 1)
put_byte out at b = record { stored = refl; ends = omega arith }

pub put_then : {out a mid b after : List ℕ} {at e end : ℕ} → TextPut out at a mid e → TextPut mid e b after end → TextPut out at (a ++ b) after end
put_then {out} {a} {mid} {b} {after} {at} {e} {end} p q =
    record {
      stored = q.stored ∙ ap₂ (λ (m : List ℕ) (i : ℕ). sets m i b) p.stored p.ends ∙ sym (sets-append out at a b);
      ends = omega (arith, p.ends, q.ends, length-append a b);
    }

-- the buffer's length stays
pub put-length : {out text after : List ℕ} {at end : ℕ} → TextPut out at text after end → length after ≡ length out
put-length {out} {text} {after} {at} {end} p = ap length p.stored ∙ length-sets out at text

-- a text that finds room, and its first part put: the second finds room behind it
pub room-front : (out : List ℕ) (at : ℕ) (a b : List ℕ) → at + length (a ++ b) ≤ length out → at + length a ≤ length out
room-front out at a b h = omega (arith, length-append a b)

pub room-behind : {out a mid : List ℕ} {at e : ℕ} (b : List ℕ) → TextPut out at a mid e → at + length (a ++ b) ≤ length out → e + length b ≤ length mid
room-behind {out} {a} {mid} {at} {e} b p h = omega (arith, p.ends, put-length p, length-append a b)

-- A LOOP THAT PUTS A TEXT PART BY PART: what is left of it, put where the loop stands, gives what the whole text gives
pub record Going (out : List ℕ) (at : ℕ) (text now : List ℕ) (end : ℕ) (left : List ℕ) : Type 0 where
  pub stores : sets now end left ≡ sets out at text
  pub leads : end + length left ≡ at + length text

pub going_start : (out : List ℕ) (at : ℕ) (text : List ℕ) → Going out at text out at text
going_start out at text = record { stores = refl; leads = refl }

pub going-turn : {out text now left after : List ℕ} {at end next : ℕ} (part rest : List ℕ) → left ≡ part ++ rest
    → Going out at text now end left → TextPut now end part after next → Going out at text after next rest
going-turn {out} {text} {now} {left} {after} {at} {end} {next} part rest e g p =
    record {
      stores =
          ap₂ (λ (m : List ℕ) (i : ℕ). sets m i rest) p.stored p.ends
          ∙ sym (sets-append now end part rest)
          ∙ sym (ap (λ (l : List ℕ). sets now end l) e)
          ∙ g.stores;
      leads = omega (arith, p.ends, g.leads, ap length e, length-append part rest);
    }

pub going_done : {out text now : List ℕ} {at end : ℕ} → Going out at text now end [] → TextPut out at text now end
going_done g = record { stored = g.stores; ends = omega (arith, g.leads) }

pub going-left : {out text now left rest : List ℕ} {at end : ℕ} → left ≡ rest → Going out at text now end left → Going out at text now end rest
going-left {out} {text} {now} {left} {rest} {at} {end} e g = subst (λ (l : List ℕ). Going out at text now end l) e g

pub going-length : {out text now left : List ℕ} {at end : ℕ} → Going out at text now end left → length now ≡ length out
going-length {out} {text} {now} {left} {at} {end} g =
    sym (length-sets now end left) ∙ ap length g.stores ∙ length-sets out at text

-- the part that comes next has its room
pub going-room : {out text now left : List ℕ} {at end : ℕ} (part rest : List ℕ) → left ≡ part ++ rest
    → Going out at text now end left → at + length text ≤ length out → end + length part ≤ length now
going-room {out} {text} {now} {left} {at} {end} part rest e g h = omega (arith, g.leads, going-length g, ap length e, length-append part rest)

-- the test for room by a division
pub roomy-not : (size at lines : ℕ) → size < at → roomy size at lines ≡ false
unfolding roomy
roomy-not size at lines h = lt-leb (at + longest_line * lines) size (omega arith)

pub roomy-by : (size at lines : ℕ) → at ≤ size → leb lines ((size - at) / longest_line) ≡ roomy size at lines
unfolding roomy
roomy-by size at lines h = by_cases (leb lines ((size - at) / longest_line)) refl
  where
    by_cases : (b : Bool) → leb lines ((size - at) / longest_line) ≡ b → leb lines ((size - at) / longest_line) ≡ leb (at + longest_line * lines) size
    by_cases true e = e ∙ sym (le-leb (at + longest_line * lines) size (omega (arith, leb-true lines ((size - at) / longest_line) e)))
    by_cases false e = e ∙ sym (lt-leb (at + longest_line * lines) size (omega (arith, leb-false lines ((size - at) / longest_line) e)))

-- what is printed, where there is room and where there may be none
printed-if : (out text : List ℕ) (at lines : ℕ) (b : Bool) → roomy (length out) at lines ≡ b
    → printed out at lines text ≡ cond b (at + length text, sets out at text) (0, out)
unfolding printed
printed-if out text at lines b h = rw h

pub printed-there : {out text after : List ℕ} {at end : ℕ} (lines : ℕ) → roomy (length out) at lines ≡ true → TextPut out at text after end
    → (end ≡ (printed out at lines text).0) × (after ≡ (printed out at lines text).1)
printed-there {out} {text} {after} {at} {end} lines h p =
    let e = printed-if out text at lines true h in
    (p.ends ∙ sym (ap (λ (q : ℕ × List ℕ). q.0) e), p.stored ∙ sym (ap (λ (q : ℕ × List ℕ). q.1) e))

pub printed-nowhere : (out text : List ℕ) (at lines : ℕ) → roomy (length out) at lines ≡ false
    → (0 ≡ (printed out at lines text).0) × (out ≡ (printed out at lines text).1)
printed-nowhere out text at lines h =
    let e = printed-if out text at lines false h in
    (sym (ap (λ (q : ℕ × List ℕ). q.0) e), sym (ap (λ (q : ℕ × List ℕ). q.1) e))

-- the other way about: where there is room, what is printed is put
pub printed-put : {out text after : List ℕ} {at end : ℕ} (lines : ℕ) → roomy (length out) at lines ≡ true → end ≡ (printed out at lines text).0
    → after ≡ (printed out at lines text).1 → TextPut out at text after end
printed-put {out} {text} {after} {at} {end} lines h e a =
    let p = printed-if out text at lines true h in
    record { stored = a ∙ ap (λ (q : ℕ × List ℕ). q.1) p; ends = e ∙ ap (λ (q : ℕ × List ℕ). q.0) p }

pub printed-length : (out : List ℕ) (at lines : ℕ) (text : List ℕ) → length (printed out at lines text).1 ≡ length out
unfolding printed
printed-length out at lines text = by_cases (roomy (length out) at lines)
  where
    both : Bool → ℕ × List ℕ
    both b = cond b (at + length text, sets out at text) (0, out)

    by_cases : (b : Bool) → length (both b).1 ≡ length out
    by_cases true = length-sets out at text
    by_cases false = refl

-- a text that is no longer than its lines may be ends within the buffer
pub printed-fits : (out : List ℕ) (at lines : ℕ) (text : List ℕ) → length text ≤ longest_line * lines → (printed out at lines text).0 ≤ length out
unfolding printed roomy
printed-fits out at lines text h = by_cases (leb (at + longest_line * lines) (length out)) refl
  where
    both : Bool → ℕ × List ℕ
    both b = cond b (at + length text, sets out at text) (0, out)

    by_cases : (b : Bool) → leb (at + longest_line * lines) (length out) ≡ b → (both b).0 ≤ length out
    by_cases true e = omega (arith, leb-true (at + longest_line * lines) (length out) e)
    by_cases false e = omega arith
