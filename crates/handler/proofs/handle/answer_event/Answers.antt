use mathlib.Core.Path.{sym, ◌∙◌}
use Rattle.series.proofs.SeriesFacts.{series-facts}
use Rattle.handler.proofs.AcceptLaws.{judged-accepted}
use Rattle.handler.proofs.RefuseLaws.{judged-refused, handed_on}
use Rattle.handler.proofs.Passed.{ask-kind}
use Rattle.handler.proofs.handle.answer_event.Goals as goal

pub refusal_of-requires : goal.refusal_of-requires
refusal_of-requires c = record {
  m_value = (series-facts c.args.series c.requires.whole.sound).step;
  well_formed = c.requires.whole.well;
  blocked_len = c.requires.whole.blocks;
  summary = c.requires.whole.seen;
}

pub returns-in_err-refusal_of : goal.returns-in_err-refusal_of
returns-in_err-refusal_of c =
    rw (sym c.ask_of-a.ensures)
    (judged-refused c.args.series _ _ c.in_err-refusal_of.ensures _ (handed_on _ c.from_residual.ensures.1))

pub accept-requires : goal.accept-requires
accept-requires c =
    record {
      acts = record {
        whole = c.requires.whole;
        kind = rw c.ask_of-a.ensures (ask-kind c.args.event).0;
        passes = sym c.in_ok-refusal_of.ensures;
      };
      room_size_in_bounds = c.requires.room_size_in_bounds;
    }

pub returns : goal.returns
returns c =
    rw (sym c.ask_of-a.ensures)
    (c.accept.ensures ∙ judged-accepted c.args.series _ _ (sym c.in_ok-refusal_of.ensures))
