use mathlib.Core.Path.{◌≡◌, sym, ◌∙◌}
use borrow.Author.Rules.{rules}
use borrow.Author.Tests.{ltb-false}
use lib.ListN.{length}
use Rattle.packing.specs.Room.{room_size}
use Rattle.handler.proofs.Ways.{returns-short, returns-unsound, returns-unread, returns-judged, admits}
use Rattle.handler.proofs.RefuseLaws.{passed_by, refused_by, there_by, missing_by}
use Rattle.handler.proofs.handle.handle_read.Goals as goal

pub returns-in_err-refuse_if : goal.returns-in_err-refuse_if
returns-in_err-refuse_if c =
    let p = refused_by _ _ c.in_err-refuse_if.ensures _ c.from_residual.ensures.1 in
    rw p.1 (returns-short c.args.series c.args.read c.args.room.now p.0)

pub returns-in_err-check : goal.returns-in_err-check
returns-in_err-check c =
    let p = missing_by _ _ c.in_err-check.ensures.value _ c.from_residual-in_err-check.ensures.1 in
    rw p.1 (returns-unsound c.args.series c.args.read c.args.room.now (passed_by _ _ c.in_ok-refuse_if.ensures) (rw p.0 at c.check_series.ensures))

pub returns-in_default : goal.returns-in_default
returns-in_default c =
    returns-unread c.args.series c.args.read c.args.room.now (passed_by _ _ c.in_ok-refuse_if.ensures)
    (rw (there_by _ _ c.in_ok-check.ensures.value) at c.check_series.ensures) c.in_default.is

pub answer_event-requires : goal.answer_event-requires
answer_event-requires c =
    let makers : length c.args.series.blocked ≡ 16 = search rules in
    let space = passed_by _ _ c.in_ok-refuse_if.ensures in
    record {
      whole = admits c.args.series c.args.read c.args.room.now space (rw (there_by _ _ c.in_ok-check.ensures.value) at c.check_series.ensures) makers;
      room_size_in_bounds = ltb-false (length c.args.room.now) room_size space;
    }

pub returns : goal.returns
returns c =
    c.answer_event.ensures
    ∙ returns-judged c.args.series c.args.read c.args.room.now (passed_by _ _ c.in_ok-refuse_if.ensures)
    (rw (there_by _ _ c.in_ok-check.ensures.value) at c.check_series.ensures) c.in-Some.event c.in-Some.is
