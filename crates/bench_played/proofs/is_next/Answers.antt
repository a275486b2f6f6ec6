use mathlib.Core.Path.{sym, ◌∙◌}
use native.Mathlib.Omega.{arith}
use Rattle.bench_played.proofs.PlayedLaws.{goes-not, goes-if}
use Rattle.handler.proofs.AnyRoom.{room-left}
use Rattle.packing.specs.Room.{room_size}
use borrow.Author.Rules.{rules}
use Rattle.bench_played.proofs.is_next.Goals as goal

pub returns-then-long-at-lt-SIZE : goal.returns-then-long-at-lt-SIZE
returns-then-long-at-lt-SIZE c =
    let a = c.args in
    sym (goes-not a.long a.at a.size a.used (omega arith))

pub returns : goal.returns
returns c =
    let a = c.args in
    room-left room_size a.size a.used (search rules) ∙ sym (goes-if a.long a.at a.size a.used (omega arith))
