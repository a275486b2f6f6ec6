-- THE VIEW OF REASONS PRINTS WHAT THE TOOL TELLS, place by place; and that is true (`why-true` of crate why).
-- Assumes nothing.
use Prim.Native.Nat.{ℕ, zero, suc, ◌+◌, ◌<◌}
use mathlib.Core.List.{List, [], ◌++◌}
use Rattle.std.specs.Prelude.{Option}
use mathlib.Core.Path.{◌≡◌, refl, sym, ap, ◌∙◌}
use native.Mathlib.Omega.{arith}
use Rattle.std.specs.Prelude.{Ok}
use Rattle.packing.specs.declared.message.Event.{Event}
use Rattle.packing.specs.Codec.{unpack_of}
use Rattle.packing.specs.Message.{messages}
use Rattle.packing.specs.Room.{report_at}
use Rattle.series.specs.declared.Series.{Series}
use Rattle.handler.specs.Handle.{Handled, handled}
use Rattle.why.specs.Why.{Explained, why_of, explained}
use Rattle.why.proofs.AcceptLaws.{heard-of}
use Rattle.why.proofs.WhyTrue.{told_of}
use Rattle.transcript.specs.declared.View.TheVariants.{Why}
use Rattle.transcript.specs.WhyLines.{why_line, why_lines, why_text}
use Rattle.transcript.specs.Transcript.{message_text}
use Rattle.transcript.proofs.WhyLaws.{whys_from, all-whys, next-why, no-why}
use Rattle.transcript.proofs.TextLaws.{text-accepted, any-room}

-- a line for each of so many places, the first of them `place`: what the tool tells of it
abbrev pub told_lines : ℕ → Series → List ℕ → List ℕ → ℕ → ℕ → List ℕ
told_lines number s message room place zero = []
told_lines number s message room place (suc more) =
    why_line number place (explained s message place room).why ++ told_lines number s message room (place + 1) more

module _ (number : ℕ) (s : Series) (message room : List ℕ) (free : (handled s message room).answer.refusal ≡ 0) where
  abbrev after : Handled
  after = handled s message room

  abbrev count : ℕ
  count = after.answer.count

  abbrev left : ℕ → List ℕ
  left = whys_from number s (unpack_of messages message) after.room count

  -- below the count the tool tells what the line says
  told-at-place : (place : ℕ) → place < count → (explained s message place room).why ≡ Ok (why_of s (unpack_of messages message) (report_at after.room place))
  unfolding handled
  told-at-place place more =
      let x = heard-of s (unpack_of messages message) room free in
      ap (λ (y : Explained). y.why) (told_of s message room place x.message x.read free more)
      ∙ ap (λ (o : Option Event). Ok (why_of s o (report_at after.room place))) (sym x.read)

  from_place : (more place : ℕ) → place + more ≡ count → left place ≡ told_lines number s message room place more
  from_place zero place h = no-why number s (unpack_of messages message) after.room count place (omega (arith, h))
  from_place (suc more) place h =
      next-why number s (unpack_of messages message) after.room count place (omega (arith, h))
      ∙ rw (told-at-place place (omega (arith, h)), from_place more (place + 1) (omega (arith, h))) refl

  -- THEOREM, for every message that is accepted, with any room: what is printed are the tool's answers at places 0 to the last, a line each
  pub why-printed : message_text Why number s message ≡ told_lines number s message room 0 count
  unfolding why_text handled
  why-printed =
      sym (any-room s message room (heard-of s (unpack_of messages message) room free).space Why number)
      ∙ text-accepted (why_lines number s (unpack_of messages message) 0) number after free
      ∙ all-whys number s (unpack_of messages message) after.room count
      ∙ from_place count 0 (omega arith)
