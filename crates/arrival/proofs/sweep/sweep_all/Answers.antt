use mathlib.Core.Path.{refl, sym, ◌∙◌}
use Rattle.arrival.proofs.SweepingLaws.{sweep-start, sweep-end, sweep-asks, sweep-lower, sweep-on}
use Rattle.arrival.proofs.sweep.sweep_all.Goals as goal

pub loop-i-init : goal.loop-i-init
loop-i-init c = record { going = sweep-start c.args.phase c.requires; same_room = refl }

pub returns-clause-told : goal.returns-clause-told
returns-clause-told c = sweep-end c.args.phase c.loop-i.invariant.going (sym c.in_default.is ∙ c.first_swept.ensures)

pub cut_at-c-requires : goal.cut_at-c-requires
cut_at-c-requires c = sweep-asks c.args.phase c.loop-i.invariant.going c.in-Some.i (sym c.in-Some.is ∙ c.first_swept.ensures)

pub loop-i-smaller : goal.loop-i-smaller
loop-i-smaller c =
    sweep-lower c.args.phase c.loop-i.invariant.going c.in-Some.i
    (sym c.in-Some.is ∙ c.first_swept.ensures) c.cut_at-c.ensures.told

pub loop-i-preserved : goal.loop-i-preserved
loop-i-preserved c = record {
  going =
      sweep-on c.args.phase c.loop-i.invariant.going c.in-Some.i (sym c.in-Some.is ∙ c.first_swept.ensures)
      c.cut_at-c.ensures.told;
  same_room = c.cut_at-c.ensures.same_room ∙ c.loop-i.invariant.same_room;
}
