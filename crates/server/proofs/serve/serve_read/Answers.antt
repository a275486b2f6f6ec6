use mathlib.Core.Path.{refl}
use Rattle.handler.proofs.RefuseLaws.{numbered}
use Rattle.server.proofs.ServeLaws.{serve-short, serve-none, serve-refused, serve-accepted}
use mathlib.Core.Path.{sym, ◌∙◌}
use borrow.Author.Rules.{rules}
use Rattle.server.proofs.serve.serve_read.Goals as goal

pub returns-then-room-lt-ROOM : goal.returns-then-room-lt-ROOM
returns-then-room-lt-ROOM c = serve-short c.args.state.now c.args.read c.args.room.now c.if-room-lt-ROOM.true

pub returns-in_default : goal.returns-in_default
returns-in_default c =
    serve-none c.args.state.now c.args.read c.args.room.now c.if-room-lt-ROOM.false (sym c.unpack_series.ensures ∙ c.in_default.is)

pub returns-in-Err : goal.returns-in-Err
returns-in-Err c =
    rw c.from.ensures
    (serve-refused c.args.state.now c.args.read c.args.room.now c.if-room-lt-ROOM.false _
    (sym c.unpack_series.ensures ∙ c.in-Some.is) _ _ c.in-Err.ensures (numbered _) (λ i. search rules))

pub returns : goal.returns
returns c =
    serve-accepted c.args.state.now c.args.read c.args.room.now c.if-room-lt-ROOM.false _
    (sym c.unpack_series.ensures ∙ c.in-Some.is) _ _ c.in-Ok.ensures refl _ c.pack_series.ensures.1
