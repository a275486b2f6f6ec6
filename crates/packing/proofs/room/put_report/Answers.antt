use mathlib.Core.Path.{sym, ap₂, ◌∙◌}
use native.Mathlib.Omega.{arith}
use lib.Seq.{sets}
use Rattle.packing.specs.Report.{reports}
use Rattle.packing.proofs.CodecLaws.{none-packs, packed-bytes}
use Rattle.packing.proofs.RoomLaws.{put-nowhere, put-unfit, put-there, written_one}
use Rattle.packing.proofs.room.put_report.Goals as goal

pub returns-then-room-at : goal.returns-then-room-at
returns-then-room-at c =
    let a = c.args in
    let n = put-nowhere a.room.now a.at a.report (omega arith) in
    (sym n.0, sym n.1)

pub returns-in-None : goal.returns-in-None
returns-in-None c =
    let a = c.args in
    let n = put-unfit a.room.now a.at a.report (none-packs reports a.report (sym c.pack.ensures ∙ c.in-None.is)) in
    (sym n.0, sym n.1)

pub returns-in-Some : goal.returns-in-Some
returns-in-Some c =
    let a = c.args in
    let s = packed-bytes reports a.report _ (sym c.pack.ensures ∙ c.in-Some.is) in
    let n = put-there a.room.now a.at a.report (omega (arith, c.if-room-at.false)) s.0 in (
      sym n.0,
      c.store.ensures
          ∙ ap₂ (sets a.room.now) c.start_of.ensures s.1
          ∙ written_one a.room.now a.at a.report
          ∙ sym n.1,
    )
