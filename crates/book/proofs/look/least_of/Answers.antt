use Rattle.std.proofs.Common.{rules}
use Rattle.std.specs.Option.{option_map}
use Rattle.lists.specs.Choose.{first, lesser}
use Rattle.book.specs.declared.Least.{Least}
use Rattle.book.specs.Shape.{zero_entry}
use Rattle.book.specs.Look.{rank_of}
use Rattle.book.proofs.LookLaws.{held_next}
use Rattle.book.proofs.NumberLaws.{soonest-start, soonest-turn, soonest-end}
use mathlib.Core.Path.{◌≡◌, refl, ap, ◌∙◌}
use lib.ListN.{get_or}
use Rattle.book.proofs.look.least_of.Goals.{in-Some, in_default}
use Rattle.book.proofs.look.least_of.Goals as goal

pub loop-i-init : goal.loop-i-init
loop-i-init g c = λ test key says. soonest-start refl

pub loop-i-preserved : goal.loop-i-preserved
loop-i-preserved g c = λ test key says.
    let turned : c.match-key_of.held ≡ held_next c.loop-i.held c.loop-i.i c.key_of.result =
    elim c.match-key_of.branch [
      | in-Some w ↦ rw w.in-Some.is (w.held-is ∙ w.lower_of-held.ensures)
      | in_default w ↦ rw w.in_default.is w.held-is
    ] in
    soonest-turn (c.loop-i.invariant test key says) zero_entry c.loop-i-test.true
    (says (get_or c.resting-e-items.result.now c.loop-i.i zero_entry) c.key_of.result c.key_of.ensures) turned

pub returns : goal.returns
returns g c = λ test key says.
    let taken : c.map.result ≡ option_map (λ (h : Least). h.at) c.loop-i.held = search rules in
    soonest-end (c.loop-i.invariant test key says) c.loop-i-test.false taken
    ∙ ap (λ l. rank_of (first test (lesser key) l)) c.resting-e-items.ensures
