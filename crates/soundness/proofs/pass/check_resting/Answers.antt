use mathlib.Core.Path.{sym, ◌∙◌}
use native.Mathlib.Omega.{arith}
use Rattle.book.specs.Shape.{entries_of}
use Rattle.soundness.proofs.ClauseLaws.{clauses-of, seat-low}
use Rattle.soundness.proofs.PassLaws.{read-start, entry-fails, number-fails, seat-fails, read_more, read_done, refused}
use Rattle.soundness.proofs.pass.check_resting.Goals as goal

pub loop-i-init : goal.loop-i-init
loop-i-init c = read-start _ _ _ _

pub returns-then-not-is_sound_entry : goal.returns-then-not-is_sound_entry
unfolding entries_of
returns-then-not-is_sound_entry c =
    let at = c.loop-i in
    refused
    (entry-fails at.invariant (omega (arith, c.requires.few, c.requires.places)) c.loop-i-test.true
    (sym c.is_sound_entry.ensures ∙ c.if-not-is_sound_entry.true))

pub returns-then-not-is_new : goal.returns-then-not-is_new
unfolding entries_of
returns-then-not-is_new c =
    let at = c.loop-i in
    refused
    (number-fails at.invariant (omega (arith, c.requires.few, c.requires.places)) c.loop-i-test.true
    (sym c.is_new.ensures ∙ c.if-not-is_new.true))

pub bounds-seats-seat : goal.bounds-seats-seat
bounds-seats-seat c =
    rw c.seat_of-seat.ensures
    (seat-low _ _ _
    (clauses-of _ _ _ (sym c.is_sound_entry.ensures ∙ c.if-not-is_sound_entry.false)))

pub returns-then-seats-seat : goal.returns-then-seats-seat
unfolding entries_of
returns-then-seats-seat c =
    let at = c.loop-i in
    refused
    (seat-fails at.invariant (omega (arith, c.requires.few, c.requires.places)) c.loop-i-test.true
    (sym c.is_sound_entry.ensures ∙ c.if-not-is_sound_entry.false)
    (rw (← c.seat_of-seat.ensures) c.if-seats-seat.true))

pub bounds-seats-seat-in-loop-i : goal.bounds-seats-seat-in-loop-i
bounds-seats-seat-in-loop-i c =
    rw c.seat_of-seat.ensures
    (seat-low _ _ _
    (clauses-of _ _ _ (sym c.is_sound_entry.ensures ∙ c.if-not-is_sound_entry.false)))

pub loop-i-preserved : goal.loop-i-preserved
loop-i-preserved c =
    let at = c.loop-i in
    rw (c.bettered-best.ensures, c.seat_of-seat.ensures)
    (read_more at.invariant (omega (arith, c.requires.few, c.requires.places)) c.loop-i-test.true
    (sym c.is_sound_entry.ensures ∙ c.if-not-is_sound_entry.false)
    (sym c.is_new.ensures ∙ c.if-not-is_new.false)
    (rw (← c.seat_of-seat.ensures) c.if-seats-seat.false) c.requires.few c.requires.step)

pub returns : goal.returns
unfolding entries_of
returns c = rw c.passed.ensures (read_done c.requires.step c.loop-i.invariant c.loop-i-test.false)
