-- What the server asks of a byte string with no series at hand.
-- Assumes nothing.
use Rattle.std.specs.Prelude.{ℕ, Bool, cond, List, [], ◌∷◌}
use Rattle.std.specs.Prelude.{Option, None, Some}
use Rattle.lists.specs.Tests.{first_holding}
use Rattle.prices.specs.Step.{mpv}
use Rattle.packing.specs.declared.message.Event.{Event}
use Rattle.packing.specs.Codec.{nothing, unpack_of, answer_of}
use Rattle.packing.specs.Message.{messages}
use Rattle.handler.specs.declared.Ask.{Ask}
use Rattle.handler.specs.Asked.{ask_of}
use Rattle.handler.specs.Refuse.{bad_party, bad_price, bad_quantity}

-- IS THIS A MESSAGE? 0, or 1 for bytes that unpack to none
abbrev pub is_message : List ℕ → ℕ
is_message message = (answer_of messages (unpack_of messages message)).0

-- refusals 2, 3 and 4 of what an event asks, in document 01's order: they need no more of a series than its M
abbrev pub faults : ℕ → Ask → List (ℕ × Bool)
faults m a = (2, bad_party a) ∷ (3, bad_price m a) ∷ (4, bad_quantity a) ∷ []

-- "A message that unpacks to no event stops there with refusal 1."
abbrev pub fault_of : ℕ → Option Event → ℕ
fault_of m None = nothing
fault_of m (Some e) = first_holding (faults m (ask_of e))

-- WHICH OF THE REFUSALS 1 TO 4 a series with this M gives the message, 0 for none of them; 11 for an M that is not 1 or 5, since no
-- sound series has it
unfoldable pub check_as : Option Event → ℕ → ℕ
check_as event m = cond (mpv m) (fault_of m event) 11

unfoldable pub check : List ℕ → ℕ → ℕ
check message m = check_as (unpack_of messages message) m
