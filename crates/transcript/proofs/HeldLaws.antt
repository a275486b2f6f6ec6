-- What is held, told message by message: each turn of the loop is the definition's, and the end is where it stops.
-- Assumes nothing.
use Prim.Native.Nat.{ℕ, zero, suc, ◌+◌, ◌-◌, ◌≤◌, ◌<◌}
use mathlib.Core.Bool.{Bool, true, false, ◌&&◌}
use mathlib.Core.List.{List, []}
use mathlib.Core.Path.{◌≡◌, refl, sym, ap, ◌∙◌}
use native.Mathlib.Omega.{arith}
use borrow.Author.Tests.{le-leb, leb-true, ltb-true, lt-ltb}
use lib.Dec.{leb, ltb}
use lib.ListN.{length}
use lib.Seq.{sets}
use Rattle.io.specs.Counts.{IsPrefixLen}
use Rattle.lists.proofs.Bools.{and_left, and_right}
use Rattle.packing.specs.Message.{message_size}
use Rattle.series.specs.declared.Series.{Series}
use Rattle.lines.specs.Buffer.{TextPut, longest_answer}
use Rattle.lines.proofs.Counting.{counts}
use Rattle.lines.proofs.BufferLaws.{put-none, put_then, put-length}
use Rattle.transcript.specs.declared.Told.{Told}
use Rattle.transcript.specs.declared.View.{View}
use Rattle.transcript.specs.Held.{most_messages, holds_next, Telling, goes_on, next, Turned, tell_on, held_told, told_by}

-- what the loop's test tells where it holds: at least one byte is held, there is room for the longest answer, and a number
pub record GoesOn (left size used number : ℕ) : Type 0 where
  pub some : 1 ≤ left
  pub room : used + longest_answer ≤ size
  pub numbered : number < most_messages

pub goes_on-tells : (ended : Bool) (left size used number : ℕ) → goes_on ended left size used number ≡ true → GoesOn left size used number
goes_on-tells ended left size used number h = record {
  some = by ended (and_left (holds_next ended left) (leb (used + longest_answer) size && ltb number most_messages) h);
  room = leb-true (used + longest_answer) size (and_left (leb (used + longest_answer) size) (ltb number most_messages) rest);
  numbered = ltb-true number most_messages (and_right (leb (used + longest_answer) size) (ltb number most_messages) rest);
}
  where
    rest : (leb (used + longest_answer) size && ltb number most_messages) ≡ true
    rest = and_right (holds_next ended left) (leb (used + longest_answer) size && ltb number most_messages) h

    by : (b : Bool) → holds_next b left ≡ true → 1 ≤ left
    by true e = leb-true 1 left e
    by false e = omega (arith, leb-true message_size left e)

-- the other way about
pub goes-where : (ended : Bool) (left size used number : ℕ) → holds_next ended left ≡ true → used + longest_answer ≤ size → number < most_messages
    → goes_on ended left size used number ≡ true
goes-where ended left size used number h space few = rw (h, le-leb (used + longest_answer) size space, lt-ltb number most_messages few)

-- WHAT IS LEFT TO TELL from here is what was to tell from the start
abbrev pub telling_as : Told → List ℕ → Telling
telling_as t text = record { series = t.series; number = t.number; at = t.at; text = text }

pub record Underway (view : View) (start : Series) (number : ℕ) (held : List ℕ) (ended : Bool) (out₀ : List ℕ) (told : Told) (out : List ℕ) : Type 0 where
  pub left : ℕ
  pub text : List ℕ
  pub same : tell_on view left ended held (length out₀) (telling_as told text) ≡ held_told view start number held ended (length out₀)
  pub enough : length held ≤ told.at + left
  pub within : told.at ≤ length held
  pub put : TextPut out₀ 0 text out told.used
  pub fits : told.used ≤ length out

pub begins : (view : View) (start : Series) (number : ℕ) (held : List ℕ) (ended : Bool) (out : List ℕ)
    → Underway view start number held ended out (record { series = start; number = number; at = 0; used = 0 }) out
unfolding held_told
begins view start number held ended out = record {
  left = length held;
  text = [];
  same = refl;
  enough = omega arith;
  within = omega arith;
  put = put-none out 0;
  fits = omega arith;
}

module _ {view : View} {start : Series} {number : ℕ} {held : List ℕ} {ended : Bool} {out₀ out : List ℕ} {told : Told}
    (u : Underway view start number held ended out₀ told out) where
  pub size : length out ≡ length out₀
  size = put-length u.put

  -- the test that the code makes is the definition's
  same_test : goes_on ended (length held - told.at) (length out) told.used told.number
      ≡ goes_on ended (length held - told.at) (length out₀) (length u.text) told.number
  same_test = rw (size, used) refl
    where
      used : told.used ≡ length u.text
      used = omega (arith, u.put.ends)

  pub goes : {told' : Told} {out' : List ℕ} → goes_on ended (length held - told.at) (length out) told.used told.number ≡ true
      → Turned view held told out told' out' → Underway view start number held ended out₀ told' out'
  unfolding tell_on
  goes {told'} {out'} h t = by u.left u.same u.enough
    where
      on : GoesOn (length held - told.at) (length out) told.used told.number
      on = goes_on-tells ended (length held - told.at) (length out) told.used told.number h

      by : (n : ℕ) → tell_on view n ended held (length out₀) (telling_as told u.text) ≡ held_told view start number held ended (length out₀)
          → length held ≤ told.at + n → Underway view start number held ended out₀ told' out'
      by zero e m = absurd (omega (arith, on.some))
      by (suc n) e m = record {
        left = n;
        text = (next view held (telling_as told u.text)).text;
        same = rw (t.series, t.number, t.at) (rw (sym same_test ∙ h) at e);
        enough = omega (arith, on.some, t.at);
        within = omega (arith, t.at);
        put = put_then u.put t.put;
        fits = t.fits;
      }

  pub less : {told' : Told} {out' : List ℕ} → goes_on ended (length held - told.at) (length out) told.used told.number ≡ true
      → Turned view held told out told' out' → length held - told'.at < length held - told.at
  less h t = omega (arith, (goes_on-tells ended (length held - told.at) (length out) told.used told.number h).some, t.at)

  pub ends : goes_on ended (length held - told.at) (length out) told.used told.number ≡ false
      → (told ≡ told_by (held_told view start number held ended (length out₀)))
      × ((out ≡ sets out₀ 0 (held_told view start number held ended (length out₀)).text) × ((told.at ≤ length held) × IsPrefixLen told.used out))
  unfolding tell_on
  ends h =
      let e : telling_as told u.text ≡ held_told view start number held ended (length out₀) = sym (by u.left) ∙ u.same in (
        ap (λ (n : ℕ). record { series = told.series; number = told.number; at = told.at; used = n }) used ∙ ap told_by e,
        (u.put.stored ∙ ap (λ (t : Telling). sets out₀ 0 t.text) e, (u.within, counts told.used out u.fits)),
      )
    where
      used : told.used ≡ length u.text
      used = omega (arith, u.put.ends)

      by : (n : ℕ) → tell_on view n ended held (length out₀) (telling_as told u.text) ≡ telling_as told u.text
      by zero = refl
      by (suc n) = rw (sym same_test ∙ h) refl
