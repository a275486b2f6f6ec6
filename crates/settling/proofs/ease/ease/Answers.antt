use Rattle.settling.proofs.Turning.{ease-start, ease-end, ease-asks, ease-lower, ease-on}
use mathlib.Core.Path.{refl, sym, ◌∙◌}
use Rattle.settling.proofs.ease.ease.Goals as goal

pub loop-i-init : goal.loop-i-init
loop-i-init c = record { going = ease-start c.requires; same_room = refl }

pub returns-clause-told : goal.returns-clause-told
returns-clause-told c = ease-end c.loop-i.invariant.going (sym c.in_default.is ∙ c.first_easing.ensures)

pub ease_at-book-requires : goal.ease_at-book-requires
ease_at-book-requires c = ease-asks c.loop-i.invariant.going c.in-Some.i (sym c.in-Some.is ∙ c.first_easing.ensures)

pub loop-i-smaller : goal.loop-i-smaller
loop-i-smaller c =
    ease-lower c.loop-i.invariant.going c.in-Some.i (sym c.in-Some.is ∙ c.first_easing.ensures)
    c.ease_at-book.ensures.told

pub loop-i-preserved : goal.loop-i-preserved
loop-i-preserved c = record {
  going =
      ease-on c.loop-i.invariant.going c.in-Some.i (sym c.in-Some.is ∙ c.first_easing.ensures)
      c.ease_at-book.ensures.told;
  same_room = c.ease_at-book.ensures.same_room ∙ c.loop-i.invariant.same_room;
}
