use mathlib.Core.Path.{sym, ◌∙◌}
use Rattle.soundness.proofs.BookLaws.{turned_down, no_step, too_many, leftover, judged}
use Rattle.soundness.proofs.check_book.Goals as goal

pub returns-then-b-gt64 : goal.returns-then-b-gt64
returns-then-b-gt64 c = turned_down (too_many _ _ _ c.if-b-gt64.true)

pub returns-then-not-is_mpv : goal.returns-then-not-is_mpv
returns-then-not-is_mpv c = turned_down (no_step _ _ _ (sym c.is_mpv.ensures ∙ c.if-not-is_mpv.true))

pub returns-then-not-is_rest_unused : goal.returns-then-not-is_rest_unused
returns-then-not-is_rest_unused c = turned_down (leftover _ _ _ (sym c.is_rest_unused.ensures.0 ∙ c.if-not-is_rest_unused.true))

pub check_resting-requires : goal.check_resting-requires
check_resting-requires c =
    record {
      step = (sym c.is_mpv.ensures ∙ c.if-not-is_mpv.false);
      few = c.if-b-gt64.false;
      places = c.is_rest_unused.ensures.1;
    }

pub returns : goal.returns
returns c =
    judged (sym c.is_mpv.ensures ∙ c.if-not-is_mpv.false) c.if-b-gt64.false
    c.is_rest_unused.ensures.1
    (sym c.is_rest_unused.ensures.0 ∙ c.if-not-is_rest_unused.false)
    c.check_resting.ensures
