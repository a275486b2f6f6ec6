-- What an event asks, in one shape.
-- No rule of document 01 stands here but its numbers of kinds, only words for the refusals and for contracts.
-- Assumes nothing.
use Rattle.std.specs.Prelude.{ℕ, false}
use Rattle.packing.specs.declared.message.Entering.{Entering}
use Rattle.packing.specs.declared.message.Event.{Event}
use Rattle.packing.specs.declared.message.Event.TheVariants.{Plain, Mmlo, Mmalo, Mmrp, Displayed, Dark, CancelEntry}
use Rattle.packing.specs.declared.message.Event.TheVariants.{CancelQuote, Away, Underlying, Phase, Enable}
use Rattle.handler.specs.declared.Ask.{Ask}

-- kinds 1 to 6
abbrev pub ask_to_enter : ℕ → Entering → Ask
ask_to_enter kind t = record { kind = kind; party = t.party; sell = t.sell; price = t.price; quantity = t.quantity; second = 0; entry = 0 }

-- document 01's number and fields for each case
abbrev pub ask_of : Event → Ask
ask_of (Plain t) = ask_to_enter 1 t
ask_of (Mmlo t) = ask_to_enter 2 t
ask_of (Mmalo t) = ask_to_enter 3 t
ask_of (Mmrp t) = ask_to_enter 4 t
ask_of (Displayed t) = ask_to_enter 5 t
ask_of (Dark t) = ask_to_enter 6 t
ask_of (CancelEntry party entry) = record { kind = 7; party = party; sell = false; price = 0; quantity = 0; second = 0; entry = entry }
ask_of (CancelQuote party sell) = record { kind = 8; party = party; sell = sell; price = 0; quantity = 0; second = 0; entry = 0 }
ask_of (Away bid offer) = record { kind = 9; party = 0; sell = false; price = bid; quantity = 0; second = offer; entry = 0 }
ask_of (Underlying price) = record { kind = 10; party = 0; sell = false; price = price; quantity = 0; second = 0; entry = 0 }
ask_of (Phase phase) = record { kind = 11; party = 0; sell = false; price = 0; quantity = phase; second = 0; entry = 0 }
ask_of (Enable party) = record { kind = 12; party = party; sell = false; price = 0; quantity = 0; second = 0; entry = 0 }
