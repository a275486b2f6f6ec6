use Rattle.packing.proofs.RoomLaws.{no_place, place-part}
use Rattle.packing.proofs.room.read_report.Goals as goal

pub returns-then-room-at : goal.returns-then-room-at
returns-then-room-at c = rw (no_place c.args.room.now c.args.at c.if-room-at.true)

pub returns : goal.returns
returns c = place-part c.args.room.now c.args.at _ c.unpack.ensures.value
