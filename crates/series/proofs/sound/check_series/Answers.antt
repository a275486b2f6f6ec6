use Rattle.series.proofs.CheckLaws.{terms-fail, book-fails, phase-fails, all_pass}
use mathlib.Core.Path.{sym, ◌∙◌}
use Rattle.series.proofs.sound.check_series.Goals as goal

pub returns-then-not-are_terms_sound : goal.returns-then-not-are_terms_sound
returns-then-not-are_terms_sound c = terms-fail c.args.s (sym c.are_terms_sound.ensures ∙ c.if-not-are_terms_sound.true)

pub returns-in_err-check : goal.returns-in_err-check
returns-in_err-check c =
    rw c.from_residual.ensures
    (book-fails c.args.s (sym c.are_terms_sound.ensures ∙ c.if-not-are_terms_sound.false) (rw c.in_err-check.was at c.check_book.ensures))

pub returns-then-not-is_phase_sound : goal.returns-then-not-is_phase_sound
returns-then-not-is_phase_sound c =
    phase-fails c.args.s (sym c.are_terms_sound.ensures ∙ c.if-not-are_terms_sound.false) _ (rw c.in_ok-check.was at c.check_book.ensures)
    (sym c.is_phase_sound.ensures ∙ c.if-not-is_phase_sound.true)

pub returns : goal.returns
returns c =
    all_pass c.args.s (sym c.are_terms_sound.ensures ∙ c.if-not-are_terms_sound.false) _ (rw c.in_ok-check.was at c.check_book.ensures)
    (sym c.is_phase_sound.ensures ∙ c.if-not-is_phase_sound.false)
