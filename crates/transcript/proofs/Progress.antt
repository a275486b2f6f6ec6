-- THE PROGRAM'S LOOP MAKES PROGRESS: what can be answered is answered, one message at least.
-- Assumes nothing.
use Prim.Native.Nat.{ℕ, zero, suc, ◌+◌, ◌-◌, ◌≤◌, ◌<◌}
use mathlib.Core.Bool.{Bool, true, false, cond}
use mathlib.Core.List.{List, []}
use mathlib.Core.Path.{◌≡◌, refl, ap, ◌∙◌}
use native.Mathlib.Omega.{arith}
use borrow.Author.Tests.{le-leb, ltb-false}
use lib.Dec.{ltb}
use lib.ListN.{length}
use Rattle.packing.specs.Message.{message_size}
use Rattle.series.specs.declared.Series.{Series}
use Rattle.lines.specs.Buffer.{longest_answer}
use Rattle.transcript.specs.declared.Told.{Told}
use Rattle.transcript.specs.declared.View.{View}
use Rattle.transcript.specs.Held.{most_messages, holds_next, Telling, goes_on, next, tell_on, held_told, told_by}
use Rattle.transcript.proofs.HeldLaws.{goes_on-tells, goes-where}

-- a message is held where there are as many bytes as one has, and in what the input ends with
pub holds-whole : (ended : Bool) (left : ℕ) → message_size ≤ left → holds_next ended left ≡ true
holds-whole true left h = le-leb 1 left (omega arith)
holds-whole false left h = le-leb message_size left h

pub holds-last : (left : ℕ) → 1 ≤ left → holds_next true left ≡ true
holds-last left h = le-leb 1 left h

-- so in any bytes, where fewer than a message has are taken for the end of the input
pub holds-some : (left : ℕ) → 1 ≤ left → holds_next (ltb left message_size) left ≡ true
holds-some left h = by (ltb left message_size) refl
  where
    by : (b : Bool) → ltb left message_size ≡ b → holds_next b left ≡ true
    by true e = holds-last left h
    by false e = holds-whole false left (ltb-false left message_size e)

-- telling never goes back, nor beyond what is held, and gives no more numbers than it passes bytes
pub record Onward (held : List ℕ) (t u : Telling) : Type 0 where
  pub number : t.number ≤ u.number
  pub at : t.at ≤ u.at
  pub within : u.at ≤ length held
  pub paced : u.number + t.at ≤ t.number + u.at

pub onward : (view : View) (turns : ℕ) (ended : Bool) (held : List ℕ) (size : ℕ) (t : Telling) → t.at ≤ length held
    → Onward held t (tell_on view turns ended held size t)
unfolding tell_on
onward view zero ended held size t h = record { number = omega arith; at = omega arith; within = h; paced = omega arith }
onward view (suc turns) ended held size t h =
    by (goes_on ended (length held - t.at) size (length t.text) t.number) refl (onward view turns ended held size (next view held t) (omega arith))
  where
    by : (b : Bool) → goes_on ended (length held - t.at) size (length t.text) t.number ≡ b
        → Onward held (next view held t) (tell_on view turns ended held size (next view held t))
        → Onward held t (cond b (tell_on view turns ended held size (next view held t)) t)
    by true e o =
        let some = (goes_on-tells ended (length held - t.at) size (length t.text) t.number e).some in
        record { number = omega (arith, o.number); at = omega (arith, o.at); within = o.within; paced = omega (arith, o.paced, some) }
    by false e o = record { number = omega arith; at = omega arith; within = h; paced = omega arith }

-- at least one message was answered: a number was given, and bytes are behind
pub record ToldSome (number : ℕ) (t : Telling) : Type 0 where
  pub numbered : number < t.number
  pub moved : 1 ≤ t.at

-- THEOREM. EACH CALL THAT FINDS A MESSAGE TELLS ONE AT LEAST, in a buffer that has room for the longest answer
pub tells-some : (view : View) (s : Series) (number : ℕ) (held : List ℕ) (ended : Bool) (size : ℕ) → holds_next ended (length held) ≡ true
    → longest_answer ≤ size
    → number < most_messages → ToldSome number (held_told view s number held ended size)
unfolding held_told tell_on
tells-some view s number held ended size h space few = by (length held) refl
  where
    first : Telling
    first = record { series = s; number = number; at = 0; text = [] }

    all : length held - 0 ≡ length held
    all = omega arith

    on : goes_on ended (length held - 0) size 0 number ≡ true
    on = goes-where ended (length held - 0) size 0 number (ap (holds_next ended) all ∙ h) space few

    by : (n : ℕ) → length held ≡ n → ToldSome number (tell_on view n ended held size first)
    by zero e = absurd (omega (arith, (goes_on-tells ended (length held - 0) size 0 number on).some))
    by (suc n) e =
        let o = onward view n ended held size (next view held first) (omega arith) in
        rw on (record { numbered = omega (arith, o.number); moved = omega (arith, o.at, e) })

-- and no more than there is
pub tells-within : (view : View) (s : Series) (number : ℕ) (held : List ℕ) (ended : Bool) (size : ℕ)
    → Onward held (record { series = s; number = number; at = 0; text = [] }) (held_told view s number held ended size)
unfolding held_told
tells-within view s number held ended size =
    onward view (length held) ended held size (record { series = s; number = number; at = 0; text = [] }) (omega arith)

-- the same of what `tell_held` answers
pub told-some : (view : View) (s : Series) (number : ℕ) (held : List ℕ) (ended : Bool) (size : ℕ) {r : Told}
    → r ≡ told_by (held_told view s number held ended size)
    → holds_next ended (length held) ≡ true → longest_answer ≤ size → number < most_messages → (number < r.number) × (1 ≤ r.at)
told-some view s number held ended size {r} e h space few =
    let t = tells-some view s number held ended size h space few in
    (omega (arith, ap (λ (x : Told). x.number) e, t.numbered), omega (arith, ap (λ (x : Told). x.at) e, t.moved))
