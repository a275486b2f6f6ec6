-- Messages: their table is lawful, so that the laws of `CodecLaws` hold of them.
use Prim.Native.Nat.{ℕ, ◌+◌, ◌<◌}
use mathlib.Core.Bool.{Bool}
use mathlib.Core.List.{List}
use Rattle.std.specs.Prelude.{Option, None, Some}
use mathlib.Core.Path.{◌≡◌, refl, sym, ap}
use native.Mathlib.Omega.{arith}
use lib.Dec.{eqb}
use lib.ListN.{length, drop, length-drop}
use borrow.Author.Tests.{ne_eqb}
use Rattle.packing.specs.declared.message.Entering.{Entering}
use Rattle.packing.specs.declared.message.Event.{Event}
use Rattle.packing.specs.declared.message.Event.TheVariants.{Plain, Mmlo, Mmalo, Mmrp, Displayed, Dark, CancelEntry}
use Rattle.packing.specs.declared.message.Event.TheVariants.{CancelQuote, Away, Underlying, Phase, Enable}
use Rattle.packing.specs.Codec.{bit, look_up, answer_of, unpack_of}
use Rattle.packing.specs.Message.{code_of, by_kind, claimed_by, messages, message_at, said_by}
use Rattle.packing.proofs.CodecLaws.{Lawful, bit_is, Answer, right, unpack-short}

-- no other kind is in the table: the code finds this by itself, and docs/RULES cites it
pub unknown-kind : (k : ℕ) (t : Entering) (second entry : ℕ)
    → (k ≡ 1 → ⊥) → (k ≡ 2 → ⊥) → (k ≡ 3 → ⊥) → (k ≡ 4 → ⊥) → (k ≡ 5 → ⊥) → (k ≡ 6 → ⊥)
    → (k ≡ 7 → ⊥) → (k ≡ 8 → ⊥) → (k ≡ 9 → ⊥) → (k ≡ 10 → ⊥) → (k ≡ 11 → ⊥) → (k ≡ 12 → ⊥)
    → look_up k (by_kind t second entry) ≡ None
unfolding by_kind
unknown-kind k t second entry n1 n2 n3 n4 n5 n6 n7 n8 n9 n10 n11 n12 =
    simp (
      ne_eqb _ _ n1,
      ne_eqb _ _ n2,
      ne_eqb _ _ n3,
      ne_eqb _ _ n4,
      ne_eqb _ _ n5,
      ne_eqb _ _ n6,
      ne_eqb _ _ n7,
      ne_eqb _ _ n8,
      ne_eqb _ _ n9,
      ne_eqb _ _ n10,
      ne_eqb _ _ n11,
      ne_eqb _ _ n12,
    )

-- what a quote or an order says can be told from its fields
terms-claimed : (t : Entering) → ◌≡◌ {A = Entering} (record { party = t.party; sell = eqb (bit t.sell) 1; price = t.price; quantity = t.quantity }) t
terms-claimed t i = record { party = t.party; sell = bit_is t.sell i; price = t.price; quantity = t.quantity }

code-claimed : (e : Event) → claimed_by (code_of e) ≡ Some e
unfolding by_kind
code-claimed (Plain t) = ap (λ (u : Entering). Some (Plain u)) (terms-claimed t)
code-claimed (Mmlo t) = ap (λ (u : Entering). Some (Mmlo u)) (terms-claimed t)
code-claimed (Mmalo t) = ap (λ (u : Entering). Some (Mmalo u)) (terms-claimed t)
code-claimed (Mmrp t) = ap (λ (u : Entering). Some (Mmrp u)) (terms-claimed t)
code-claimed (Displayed t) = ap (λ (u : Entering). Some (Displayed u)) (terms-claimed t)
code-claimed (Dark t) = ap (λ (u : Entering). Some (Dark u)) (terms-claimed t)
code-claimed (CancelEntry party entry) = refl
code-claimed (CancelQuote party sell) = ap (λ (s : Bool). Some (CancelQuote party s)) (bit_is sell)
code-claimed (Away bid offer) = refl
code-claimed (Underlying price) = refl
code-claimed (Phase phase) = refl
code-claimed (Enable party) = refl

pub lawful : Lawful messages
lawful = record { whole = refl; long = refl; code-claimed = code-claimed }

-- an answer has document 01's number and fields
abbrev pub answer : Answer messages
answer = record { said = said_by; says = says }
  where
    says : (u : Option Event) → said_by u ≡ answer_of messages u
    says None = refl
    says (Some e) = refl

-- too few bytes from a place to the run's end
pub short : (run : List ℕ) (at : ℕ) → length run < at + messages.size
    → (None ≡ unpack_of messages (message_at run at)) × (said_by None ≡ answer_of messages (unpack_of messages (message_at run at)))
short run at h =
    right messages answer (unpack_of messages (message_at run at)) None
    (sym (unpack-short messages (drop at run) (rw length-drop (omega arith))))
