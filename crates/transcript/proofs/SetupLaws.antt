-- What is printed for a setup.
-- Assumes nothing.
use Prim.Native.Nat.{ℕ, ◌≤◌, ◌<◌, min}
use mathlib.Core.Bool.{Bool, true, false, cond}
use mathlib.Core.List.{List, []}
use Rattle.std.specs.Prelude.{Option, None, Some, Result}
use mathlib.Core.Path.{◌≡◌, refl, sym, ap, ◌∙◌}
use native.Mathlib.Omega.{arith}
use borrow.Author.Tests.{leb-true, leb-false}
use lib.Dec.{leb}
use lib.ListN.{length, take}
use lib.Seq.{take_all}
use Rattle.packing.specs.declared.setup.Setup.{Setup}
use Rattle.packing.specs.Codec.{unpack_of}
use Rattle.packing.specs.Setup.{setups, setup_size}
use Rattle.kinds.specs.declared.refusal.Refusal.{Refusal}
use Rattle.series.specs.declared.Series.{Series}
use Rattle.series.specs.Series.{opened}
use Rattle.lines.specs.Lines.{answer_text}
use Rattle.lines.specs.Buffer.{roomy, printed, answer_printed}
use Rattle.transcript.specs.Transcript.{setup_in, setup_text}
use Rattle.transcript.specs.Held.{setup_printed, refusal_told, begun}

-- nothing is printed where there is no text, with room or without
printed-none : (out : List ℕ) (lines : ℕ) → ◌≡◌ {A = ℕ × List ℕ} (printed out 0 lines []) (0, out)
unfolding printed
printed-none out lines = by (roomy (length out) 0 lines)
  where
    nothing : ℕ × List ℕ
    nothing = (0, out)

    by : (b : Bool) → cond b nothing nothing ≡ nothing
    by true = refl
    by false = refl

-- the refusal's line is all that is printed
pub setup-printed : (u : Option Setup) (out room : List ℕ) → answer_printed out 0 0 (refusal_told (opened u)) 0 room ≡ printed out 0 1 (setup_text u)
unfolding answer_text
setup-printed None out room = refl
setup-printed (Some s) out room = printed-none out 0 ∙ sym (printed-none out 1)

-- as many of the first bytes as there are
pub front-part : (n : ℕ) (l : List ℕ) → take (min (length l) n) l ≡ take n l
front-part n l = by (leb n (length l)) refl
  where
    by : (b : Bool) → leb n (length l) ≡ b → take (min (length l) n) l ≡ take n l
    by true e =
        let h : n ≤ length l = leb-true n (length l) e in
        let same : min (length l) n ≡ n = omega arith in
        ap (λ (k : ℕ). take k l) same
    by false e =
        let h : length l < n = leb-false n (length l) e in
        take_all (min (length l) n) l (omega arith) ∙ sym (take_all n l (omega arith))

-- WHAT `tell_setup` LEAVES
pub setup-told : (held out room : List ℕ) {made : Result Series Refusal} {at why used : ℕ} {after : List ℕ}
    → at ≡ min (length held) setup_size → made ≡ opened (unpack_of setups (take at held)) → why ≡ refusal_told made
    → used ≡ (answer_printed out 0 0 why 0 room).0 → after ≡ (answer_printed out 0 0 why 0 room).1
    → (record { series = made; at = at; used = used } ≡ begun held out) × (after ≡ (setup_printed held out).1)
setup-told held out room {made} {at} {why} {used} {after} p m w u a = (
  λ i. record { series = is i; at = p i; used = (u ∙ ap (λ (q : ℕ × List ℕ). q.0) same) i },
  a ∙ ap (λ (q : ℕ × List ℕ). q.1) same,
)
  where
    is : made ≡ opened (setup_in held)
    is = m ∙ ap (λ (l : List ℕ). opened (unpack_of setups l)) (ap (λ (k : ℕ). take k held) p ∙ front-part setup_size held)

    same : answer_printed out 0 0 why 0 room ≡ setup_printed held out
    same = ap (λ (n : ℕ). answer_printed out 0 0 n 0 room) (w ∙ ap refusal_told is) ∙ setup-printed (setup_in held) out room
