use Rattle.settling.proofs.Turning.{stir-start, stir-judges, stir-end, stir-asks, stir-lower, stir-on}
use mathlib.Core.Path.{refl, sym, ◌∙◌}
use Rattle.settling.proofs.stir.stir.Goals as goal

pub loop-i-init : goal.loop-i-init
loop-i-init c = record { going = stir-start c.requires; same_room = refl }

pub first_stirring-requires : goal.first_stirring-requires
first_stirring-requires c = stir-judges c.loop-i.invariant.going c.front_of-front.ensures

-- What is returned is the whole run: what the loop holds is the run so far,
-- and nothing stirs any more.
pub returns-in_default-clause-told : goal.returns-in_default-clause-told
returns-in_default-clause-told c = stir-end c.loop-i.invariant.going c.front_of-front.ensures (sym c.in_default.is ∙ c.first_stirring.ensures)

pub stir_at-book-requires : goal.stir_at-book-requires
stir_at-book-requires c =
    stir-asks c.loop-i.invariant.going c.front_of-front.ensures c.in-Some.i
    (sym c.in-Some.is ∙ c.first_stirring.ensures)

pub loop-i-smaller : goal.loop-i-smaller
loop-i-smaller c =
    stir-lower c.loop-i.invariant.going c.front_of-front.ensures c.in-Some.i
    (sym c.in-Some.is ∙ c.first_stirring.ensures) c.stir_at-book.ensures.told

pub loop-i-preserved : goal.loop-i-preserved
loop-i-preserved c = record {
  going =
      stir-on c.loop-i.invariant.going c.front_of-front.ensures c.in-Some.i
      (sym c.in-Some.is ∙ c.first_stirring.ensures) c.stir_at-book.ensures.told;
  same_room = c.stir_at-book.ensures.same_room ∙ c.loop-i.invariant.same_room;
}
