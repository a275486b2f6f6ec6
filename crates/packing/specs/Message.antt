-- Messages, as document 01's "Numbers" lays them out.
use Rattle.std.specs.Prelude.{ℕ, true, refl, List, [], ◌∷◌, eqb, get_or, take, drop}
use Rattle.std.specs.Prelude.{Option, None, Some}
use Rattle.std.proofs.Common.{lit≤}
use Rattle.packing.specs.declared.message.Entering.{Entering}
use Rattle.packing.specs.declared.message.Event.{Event}
use Rattle.packing.specs.declared.message.Event.TheVariants.{Plain, Mmlo, Mmalo, Mmrp, Displayed, Dark, CancelEntry}
use Rattle.packing.specs.declared.message.Event.TheVariants.{CancelQuote, Away, Underlying, Phase, Enable}
use Rattle.bits.specs.Fields.{Narrow}
use Rattle.packing.specs.Codec.{Codec, Tabled, nothing, bit, look_up}

-- "A message is 11 bytes: kind 4 bits, party 7, side 1 (0 buy, 1 sell), price 17, quantity 17, second price 17, entry 20, five zero bits."
abbrev pub message_size : ℕ
message_size = 11

abbrev pub widths : List ℕ
widths = 4 ∷ 7 ∷ 1 ∷ 17 ∷ 17 ∷ 17 ∷ 20 ∷ 5 ∷ []

-- kinds 1 to 6: "party, side, price (limit), quantity"
abbrev pub entering_code : ℕ → Entering → List ℕ
entering_code kind t = kind ∷ t.party ∷ bit t.sell ∷ t.price ∷ t.quantity ∷ 0 ∷ 0 ∷ 0 ∷ []

-- THE TABLE of document 01: the number of each case and its fields, in the message's order. "Fields not named here are zero."
abbrev pub code_of : Event → List ℕ
code_of (Plain t) = entering_code 1 t
code_of (Mmlo t) = entering_code 2 t
code_of (Mmalo t) = entering_code 3 t
code_of (Mmrp t) = entering_code 4 t
code_of (Displayed t) = entering_code 5 t
code_of (Dark t) = entering_code 6 t
code_of (CancelEntry party entry) = 7 ∷ party ∷ 0 ∷ 0 ∷ 0 ∷ 0 ∷ entry ∷ 0 ∷ []
code_of (CancelQuote party sell) = 8 ∷ party ∷ bit sell ∷ 0 ∷ 0 ∷ 0 ∷ 0 ∷ 0 ∷ []
code_of (Away bid offer) = 9 ∷ 0 ∷ 0 ∷ bid ∷ 0 ∷ offer ∷ 0 ∷ 0 ∷ []
code_of (Underlying price) = 10 ∷ 0 ∷ 0 ∷ price ∷ 0 ∷ 0 ∷ 0 ∷ 0 ∷ []
code_of (Phase phase) = 11 ∷ 0 ∷ 0 ∷ 0 ∷ phase ∷ 0 ∷ 0 ∷ 0 ∷ []
code_of (Enable party) = 12 ∷ party ∷ 0 ∷ 0 ∷ 0 ∷ 0 ∷ 0 ∷ 0 ∷ []

-- the same table read by kind: what each kind makes of the fields that it names, whatever the others hold
unfoldable pub by_kind : Entering → ℕ → ℕ → List (ℕ × Event)
by_kind t second entry =
    (1, Plain t)
    ∷ (2, Mmlo t)
    ∷ (3, Mmalo t)
    ∷ (4, Mmrp t)
    ∷ (5, Displayed t)
    ∷ (6, Dark t)
    ∷ (7, CancelEntry t.party entry)
    ∷ (8, CancelQuote t.party t.sell)
    ∷ (9, Away t.price second)
    ∷ (10, Underlying t.price)
    ∷ (11, Phase t.quantity)
    ∷ (12, Enable t.party)
    ∷ []

-- the fields in the message's order: kind, party, side, price, quantity, second price, entry
abbrev pub claimed_by : List ℕ → Option Event
claimed_by l =
    look_up (get_or l 0 0)
    (by_kind (record { party = get_or l 1 0; sell = eqb (get_or l 2 0) 1; price = get_or l 3 0; quantity = get_or l 4 0 }) (get_or l 5 0) (get_or l 6 0))

-- whether values are in range is not asked here: that is refusal 2, 3 or 4
abbrev pub messages : Codec Event
messages = record { widths = widths; size = message_size; code = code_of; claimed = claimed_by; admitted = λ _. true }

-- the code has this table
pub tabled : Tabled messages widths 8 message_size
tabled =
    let narrow : Narrow widths = (lit≤ tt, (lit≤ tt, (lit≤ tt, (lit≤ tt, (lit≤ tt, (lit≤ tt, (lit≤ tt, (lit≤ tt, tt)))))))) in
    record { widths = refl; size = refl; few = lit≤ tt; layout = record { fills = refl; narrow = narrow; fields = refl; small = lit≤ tt } }

-- "A message in a long run is judged where it stands in the run, not copied out; a place with fewer than 11 bytes from it to the
-- run's end holds a message of wrong length": these bytes are then fewer than 11
abbrev pub message_at : List ℕ → ℕ → List ℕ
message_at run at = take message_size (drop at run)

-- document 01's number and fields for each case of the answer
abbrev pub said_by : Option Event → ℕ × List ℕ
said_by None = (nothing, [])
said_by (Some e) = (0, code_of e)
