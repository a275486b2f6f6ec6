use Prim.Native.Nat.{◌-◌}
use mathlib.Core.Path.{sym, ◌∙◌}
use lib.ListN.{length}
use Rattle.transcript.proofs.HeldLaws.{goes_on-tells, begins, size, goes, less, ends}
use borrow.Author.Rules.{rules}
use Rattle.transcript.proofs.tell_held.Goals as goal

pub loop-view-init : goal.loop-view-init
loop-view-init c =
    let a = c.args in
    (begins a.view a.start a.number a.held.now a.ended a.out.now, search rules)

pub tell_next-told-requires : goal.tell_next-told-requires
tell_next-told-requires c =
    let l = c.loop-view in
    let on = goes_on-tells c.args.ended (length c.args.held.now - l.told.at) (length l.out) l.told.used l.told.number
    (sym c.is_next.ensures ∙ c.loop-view-test.true) in
    record { at_in_bounds = (l.invariant.0.within, on.numbered); room_size_in_bounds = (search rules, on.room) }

pub loop-view-smaller : goal.loop-view-smaller
loop-view-smaller c = less c.loop-view.invariant.0 (sym c.is_next.ensures ∙ c.loop-view-test.true) c.tell_next-told.ensures

pub loop-view-preserved : goal.loop-view-preserved
loop-view-preserved c = (goes c.loop-view.invariant.0 (sym c.is_next.ensures ∙ c.loop-view-test.true) c.tell_next-told.ensures, search rules)

pub shape_of-out : goal.shape_of-out
shape_of-out c = size c.loop-view.invariant.0

pub returns : goal.returns
returns c = let both = ends c.loop-view.invariant.0 (sym c.is_next.ensures ∙ c.loop-view-test.false) in
    record { value = both.0; out_after = both.1.0; at_in_bounds = both.1.1 }
