use mathlib.Core.Path.{refl, ◌∙◌}
use Rattle.packing.specs.Message.{message_at}
use Rattle.transcript.proofs.TextLaws.{answers, series-told, text-told}
use Rattle.transcript.proofs.tell_next.Goals as goal

pub tell_answer-used-requires : goal.tell_answer-used-requires
tell_answer-used-requires c =
    let a = c.args in
    let t = a.told in (
      answers t.series (message_at a.held.now t.at) a.room.now c.unpack_at-read.ensures.value c.handle_read-answer.ensures,
      c.requires.room_size_in_bounds.1,
    )

pub returns : goal.returns
returns c =
    let a = c.args in
    let t = a.told in
    let message = message_at a.held.now t.at in
    let read = c.unpack_at-read.ensures.value in
    let e = c.handle_read-answer.ensures in
    let put = c.tell_answer-used.ensures in
    let large = c.requires.room_size_in_bounds.0 in
    record {
      series = c.series_left-series.ensures ∙ series-told t.series message a.room.now read e large;
      number = refl;
      at = c.place_behind.ensures;
      put = text-told t.series message a.room.now read e large a.view t.number put.text_put;
      fits = put.upper_bound;
    }
