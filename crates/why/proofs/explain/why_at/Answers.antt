use mathlib.Core.Path.{ap, ◌∙◌}
use Rattle.std.specs.Prelude.{Option}
use Rattle.packing.specs.declared.message.Event.{Event}
use Rattle.why.specs.Why.{explained_as, explained}
use Rattle.why.proofs.explain.why_at.Goals as goal

pub returns : goal.returns
unfolding explained
returns c =
    let a = c.args in
    c.why_read.ensures
    ∙ ap (λ (o : Option Event). explained_as a.series o a.place a.room.now) c.unpack_at.ensures.value
