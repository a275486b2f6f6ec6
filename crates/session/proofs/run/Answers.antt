use mathlib.Core.Path.{sym, ap, ◌∙◌}
use native.Mathlib.Omega.{arith}
use lib.Dec.{ltb}
use lib.ListN.{length, take}
use Rattle.packing.specs.Message.{message_size}
use Rattle.transcript.specs.Held.{holds_next}
use Rattle.transcript.proofs.Progress.{holds-some, told-some}
use Rattle.session.proofs.run.Goals as goal

pub loop-number-smaller : goal.loop-number-smaller
loop-number-smaller g c =
    let l = c.loop-number in
    let held = c.in_ok-held.held in
    let some = ap (holds_next (ltb held message_size)) (sym c.in_ok-held.ensures.held.1) ∙ holds-some held (omega (arith, c.if-held-eq0.false)) in
    let more = told-some c.args.view l.series l.number (take held c.ready.new.input) (ltb held message_size) (length l.out)
    c.tell_held-told.ensures.value some (omega (arith, l.invariant.3, c.requires.3)) c.loop-number-test.true in
    omega (arith, more.0, c.loop-number-test.true)
