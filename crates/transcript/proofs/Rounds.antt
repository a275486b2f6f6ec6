-- AN INPUT TOLD IN ROUNDS: however it comes and however much is told at a time, what is printed is the whole's text. Progress says that each round tells
-- something.
-- Assumes nothing.
use Prim.Native.Nat.{ℕ, zero, suc, ◌+◌, ◌-◌, ◌≤◌, ◌<◌, min}
use mathlib.Core.Bool.{Bool, true, false, cond}
use mathlib.Core.List.{List, [], ◌∷◌, ◌++◌, append-nil, append_assoc}
use Rattle.std.specs.Prelude.{Option, None, Some}
use mathlib.Core.Path.{◌≡◌, refl, sym, ap, ap₂, ◌∙◌, subst}
use native.Mathlib.Omega.{arith}
use borrow.Author.Tests.{leb-true, leb-false}
use lib.Dec.{leb}
use lib.ListN.{length, take, drop, length-append, length-drop, drop_of_length-le}
use lib.Seq.{take-append-le, drop-append-le, drop-drop}
use Rattle.lists.proofs.Bools.{and_left}
use Rattle.packing.specs.declared.setup.Setup.{Setup}
use Rattle.packing.specs.Codec.{nothing, unpack_of}
use Rattle.packing.specs.Setup.{setups, setup_size}
use Rattle.packing.specs.Message.{message_size, message_at}
use Rattle.packing.proofs.CodecLaws.{unpack-short}
use Rattle.series.specs.declared.Series.{Series}
use Rattle.series.specs.Series.{new_series}
use Rattle.lines.specs.Lines.{refusal_line}
use Rattle.lines.specs.Buffer.{longest_answer}
use Rattle.transcript.specs.declared.View.{View}
use Rattle.transcript.specs.Transcript.{answered, message_text, messages_in, messages_of, lines_for, lines_from, printed_for, transcript, setup_in, setup_text}
use Rattle.transcript.specs.Held.{most_messages, holds_next, Telling, goes_on, next, tell_on, held_told}
use Rattle.transcript.proofs.Progress.{holds-last, tells-some, tells-within}

-- ---- the messages of bytes ----

-- any number of turns that is enough gives the same
messages-enough : (n m : ℕ) (bytes : List ℕ) → length bytes ≤ n → length bytes ≤ m → messages_in n bytes ≡ messages_in m bytes
unfolding messages_in
messages-enough zero zero [] h k = refl
messages-enough zero (suc m) [] h k = refl
messages-enough (suc n) zero [] h k = refl
messages-enough (suc n) (suc m) [] h k = refl
messages-enough zero m (b ∷ bytes) h k = absurd (omega arith)
messages-enough (suc n) zero (b ∷ bytes) h k = absurd (omega arith)
messages-enough (suc n) (suc m) (b ∷ bytes) h k =
    ap (λ (l : List (List ℕ)). take message_size (b ∷ bytes) ∷ l)
    (messages-enough n m (drop message_size (b ∷ bytes)) (omega (arith, less)) (omega (arith, less)))
  where
    less : length (drop message_size (b ∷ bytes)) ≡ length (b ∷ bytes) - message_size
    less = length-drop message_size (b ∷ bytes)

-- the first, and those behind it
messages-next : (bytes : List ℕ) → 1 ≤ length bytes → messages_of bytes ≡ take message_size bytes ∷ messages_of (drop message_size bytes)
unfolding messages_in
messages-next [] h = absurd (omega arith)
messages-next (b ∷ bytes) h =
    ap (λ (l : List (List ℕ)). take message_size (b ∷ bytes) ∷ l)
    (messages-enough (length bytes) (length (drop message_size (b ∷ bytes))) (drop message_size (b ∷ bytes))
    (omega (arith, length-drop message_size (b ∷ bytes)))
    (omega arith))

-- ---- what is held, told as far as there is room ----

lines_next : (view : View) (number : ℕ) (s : Series) (bytes : List ℕ) → 1 ≤ length bytes
    → lines_from view number s bytes
    ≡ message_text view number s (take message_size bytes)
    ++ lines_from view (number + 1) (answered s (take message_size bytes)).answer.series (drop message_size bytes)
unfolding lines_for
lines_next view number s bytes h = ap (lines_for view number s) (messages-next bytes h)

drop-within : (n : ℕ) (l : List ℕ) → drop (min n (length l)) l ≡ drop n l
drop-within n l = by (leb n (length l)) refl
  where
    by : (b : Bool) → leb n (length l) ≡ b → drop (min n (length l)) l ≡ drop n l
    by true e =
        let h : n ≤ length l = leb-true n (length l) e in
        let same : min n (length l) ≡ n = omega arith in
        ap (λ (k : ℕ). drop k l) same
    by false e =
        let h : length l < n = leb-false n (length l) e in
        drop_of_length-le l {i = min n (length l)} (omega arith) ∙ sym (drop_of_length-le l {i = n} (omega arith))

-- the bytes from a place of what is held on, to the input's end
abbrev pub rest : List ℕ → List ℕ → ℕ → List ℕ
rest held more at = drop at held ++ more

-- a message that is held is the input's, and what stands behind it too
record HeldMessage (held more : List ℕ) (at : ℕ) : Type 0 where
  some : 1 ≤ length (rest held more at)
  message : take message_size (rest held more at) ≡ message_at held at
  behind : drop message_size (rest held more at) ≡ rest held more (min (at + message_size) (length held))

held-message : (ended : Bool) (held more : List ℕ) (at : ℕ) → (ended ≡ true → more ≡ []) → holds_next ended (length held - at) ≡ true
    → HeldMessage held more at
held-message ended held more at whole h = by ended whole h
  where
    long : length (drop at held) ≡ length held - at
    long = length-drop at held

    after : drop message_size (drop at held) ≡ drop (min (at + message_size) (length held)) held
    after = drop-drop message_size at held ∙ sym (drop-within (at + message_size) held)

    -- nothing comes behind what is held
    alone : (k : ℕ) → more ≡ [] → rest held more k ≡ drop k held
    alone k e = ap (λ (l : List ℕ). drop k held ++ l) e ∙ append-nil (drop k held)

    by : (b : Bool) → (b ≡ true → more ≡ []) → holds_next b (length held - at) ≡ true → HeldMessage held more at
    by true w t = record {
      some = omega (arith, ap length (alone at (w refl)), long, leb-true 1 (length held - at) t);
      message = ap (take message_size) (alone at (w refl));
      behind = ap (drop message_size) (alone at (w refl)) ∙ after ∙ sym (alone (min (at + message_size) (length held)) (w refl));
    }
    by false w t =
        let space : message_size ≤ length (drop at held) = omega (arith, long, leb-true message_size (length held - at) t) in
        record {
          some = omega (arith, length-append (drop at held) more);
          message = take-append-le message_size (drop at held) more space;
          behind = drop-append-le message_size (drop at held) more space ∙ ap (λ (l : List ℕ). l ++ more) after;
        }

-- what is printed so far, and what the rest of the input prints
abbrev with_rest : View → List ℕ → List ℕ → Telling → List ℕ
with_rest view held more t = t.text ++ lines_from view t.number t.series (rest held more t.at)

module _ (view : View) (ended : Bool) (held more : List ℕ) (whole : ended ≡ true → more ≡ []) where
  -- together they stay the same from message to message
  next-same : (t : Telling) → holds_next ended (length held - t.at) ≡ true → with_rest view held more t ≡ with_rest view held more (next view held t)
  next-same t h =
      let m = held-message ended held more t.at whole h in
      ap (λ (l : List ℕ). t.text ++ l)
      (lines_next view t.number t.series (rest held more t.at) m.some
      ∙ ap₂ (λ (a b : List ℕ). message_text view t.number t.series a ++ lines_from view (t.number + 1) (answered t.series a).answer.series b)
      m.message m.behind)
      ∙ sym (append_assoc t.text _ _)

  tell-same : (turns size : ℕ) (t : Telling) → with_rest view held more t ≡ with_rest view held more (tell_on view turns ended held size t)
  unfolding tell_on
  tell-same zero size t = refl
  tell-same (suc turns) size t = by (goes_on ended (length held - t.at) size (length t.text) t.number) refl (tell-same turns size (next view held t))
    where
      by : (b : Bool) → goes_on ended (length held - t.at) size (length t.text) t.number ≡ b
          → with_rest view held more (next view held t) ≡ with_rest view held more (tell_on view turns ended held size (next view held t))
          → with_rest view held more t ≡ with_rest view held more (cond b (tell_on view turns ended held size (next view held t)) t)
      by true h later = next-same t (and_left (holds_next ended (length held - t.at)) _ h) ∙ later
      by false h later = refl

  -- WHAT IS TOLD OF WHAT IS HELD is the front of what the input prints from there on, and what the rest of the input prints stands behind it
  pub held-part : (s : Series) (number size : ℕ) → lines_from view number s (held ++ more) ≡ with_rest view held more (held_told view s number held ended size)
  unfolding held_told
  held-part s number size = tell-same (length held) size (record { series = s; number = number; at = 0; text = [] })

-- ---- rounds ----

-- WHAT A PROGRAM PRINTS IN ROUNDS, from message `number` on and for the bytes up to the input's end. In each round it holds the next of these bytes, as many as
-- it likes; `more` are those still to come, none once the input has ended. It prints what is told of those that it holds, keeps those that are not yet
-- answered, and goes on until nothing is left
pub data Rounds (view : View) : Series → ℕ → List ℕ → List ℕ → Type 0 where
  over : {s : Series} {number : ℕ} → Rounds view s number [] []
  round : {s : Series} {number : ℕ} {text : List ℕ} (held more : List ℕ) (ended : Bool) (size : ℕ) → (ended ≡ true → more ≡ [])
      → Rounds view (held_told view s number held ended size).series (held_told view s number held ended size).number
      (rest held more (held_told view s number held ended size).at) text
      → Rounds view s number (held ++ more) ((held_told view s number held ended size).text ++ text)

-- THEOREM. HOWEVER AN INPUT IS CUT INTO PARTS, at whole messages as `tell_held` leaves them, the texts of the parts put one behind the other are the whole's
pub transcript-parts : {view : View} {s : Series} {number : ℕ} {bytes text : List ℕ} → Rounds view s number bytes text → lines_from view number s bytes ≡ text
unfolding messages_in lines_for
transcript-parts over = refl
transcript-parts {view} {s} {number} (round held more ended size whole later) =
    held-part view ended held more whole s number size ∙ ap (λ (l : List ℕ). (held_told view s number held ended size).text ++ l) (transcript-parts later)

-- AND THERE ARE SUCH ROUNDS, whatever the input, with any buffer that has room for the longest answer: each tells something, so that an end is reached.
-- (11 bytes for each of 10^18 messages are more than there is)
abbrev Reached : View → ℕ → Type 0
Reached view turns =
    (s : Series) (number : ℕ) (bytes : List ℕ) → length bytes ≤ turns → number + length bytes ≤ most_messages
    → Rounds view s number bytes (lines_from view number s bytes)

module _ (view : View) (size : ℕ) (space : longest_answer ≤ size) where
  none_left : Reached view 0
  unfolding messages_in lines_for
  none_left s number [] h few = over
  none_left s number (b ∷ bytes) h few = absurd (omega arith)

  one_more : (turns : ℕ) → Reached view turns → Reached view (suc turns)
  unfolding messages_in lines_for
  one_more turns before s number [] h few = over
  one_more turns before s number (b ∷ bytes) h few =
      let held : List ℕ = b ∷ bytes in
      let u : Telling = held_told view s number held true size in
      let on = tells-within view s number held true size in
      let some = tells-some view s number held true size (holds-last (length held) (omega arith)) space (omega arith) in
      let left : length (rest held [] u.at) ≡ length held - u.at =
      ap length (append-nil (drop u.at held)) ∙ length-drop u.at held in
      let later = before u.series u.number (rest held [] u.at) (omega (arith, left, some.moved, h))
      (omega (arith, left, on.paced, on.within, few)) in
      subst (λ (l : List ℕ). Rounds view s number l (lines_from view number s l)) (append-nil held)
      (subst (Rounds view s number (held ++ [])) (sym (held-part view true held [] (λ z. refl) s number size)) (round held [] true size (λ z. refl) later))

  reach : (turns : ℕ) → Reached view turns
  reach zero = none_left
  reach (suc turns) = one_more turns (reach turns)

  pub rounds-reach : (s : Series) (number : ℕ) (bytes : List ℕ) → number + length bytes ≤ most_messages
      → Rounds view s number bytes (lines_from view number s bytes)
  rounds-reach s number bytes few = reach (length bytes) s number bytes (omega arith) few

-- what stands in front of what is held is what stands in front of the input
module _ (n : ℕ) (held more : List ℕ) (whole : length held < n → more ≡ []) where
  front-held : take n held ≡ take n (held ++ more)
  front-held = by (leb n (length held)) refl
    where
      by : (b : Bool) → leb n (length held) ≡ b → take n held ≡ take n (held ++ more)
      by true e = sym (take-append-le n held more (leb-true n (length held) e))
      by false e = ap (take n) (sym (append-nil held) ∙ ap (λ (l : List ℕ). held ++ l) (sym (whole (leb-false n (length held) e))))

  behind-front : drop n (held ++ more) ≡ rest held more (min (length held) n)
  behind-front = by (leb n (length held)) refl
    where
      by : (b : Bool) → leb n (length held) ≡ b → drop n (held ++ more) ≡ rest held more (min (length held) n)
      by true e =
          let h : n ≤ length held = leb-true n (length held) e in
          let same : n ≡ min (length held) n = omega arith in
          drop-append-le n held more h ∙ ap (λ (k : ℕ). rest held more k) same
      by false e =
          let h : length held < n = leb-false n (length held) e in
          let all : more ≡ [] = whole h in
          drop_of_length-le (held ++ more) {i = n} (omega (arith, length-append held more, ap length all))
          ∙ sym (ap (λ (l : List ℕ). drop (min (length held) n) held ++ l) all ∙ append-nil (drop (min (length held) n) held)
          ∙ drop_of_length-le held {i = min (length held) n} (omega arith))

-- A WHOLE SESSION. First it holds bytes for the setup, fewer than these only where no more are to come; a setup that is refused is all that it reads
pub data Session (view : View) : List ℕ → List ℕ → Type 0 where
  refused : (held more : List ℕ) → (length held < setup_size → more ≡ []) → setup_in held ≡ None → Session view (held ++ more) (setup_text None)
  played : {text : List ℕ} (held more : List ℕ) (setup : Setup) → (length held < setup_size → more ≡ []) → setup_in held ≡ Some setup
      → Rounds view (new_series setup) 1 (rest held more (min (length held) setup_size)) text → Session view (held ++ more) (setup_text (Some setup) ++ text)

setup-same : (held more : List ℕ) → (length held < setup_size → more ≡ []) → setup_in (held ++ more) ≡ setup_in held
setup-same held more whole = ap (unpack_of setups) (sym (front-held setup_size held more whole))

-- THEOREM. WHAT IT PRINTS OVER ALL ITS ROUNDS IS THE TRANSCRIPT of its input
pub session-prints : {view : View} {input text : List ℕ} → Session view input text → transcript view input ≡ text
unfolding transcript
session-prints {view} (refused held more whole u) =
    ap (λ (o : Option Setup). printed_for view o (drop setup_size (held ++ more))) (setup-same held more whole ∙ u)
session-prints {view} (played held more setup whole u later) =
    ap (λ (o : Option Setup). printed_for view o (drop setup_size (held ++ more))) (setup-same held more whole ∙ u)
    ∙ ap (lines_from view 1 (new_series setup)) (behind-front setup_size held more whole)
    ∙ transcript-parts later

-- "input that ends inside the setup prints the same; a good setup alone prints nothing" (docs/DECISIONS.md)
pub short-setup : (view : View) (input : List ℕ) → length input < setup_size → transcript view input ≡ refusal_line 0 nothing
unfolding transcript
short-setup view input h = ap (λ (o : Option Setup). printed_for view o (drop setup_size input)) (unpack-short setups input h)

pub setup-alone : (view : View) (input : List ℕ) (setup : Setup) → setup_in input ≡ Some setup → length input ≤ setup_size → transcript view input ≡ []
unfolding transcript lines_for messages_in
setup-alone view input setup u h =
    ap (λ (o : Option Setup). printed_for view o (drop setup_size input)) u
    ∙ ap (lines_from view 1 (new_series setup)) (drop_of_length-le input {i = setup_size} h)
