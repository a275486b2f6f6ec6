use mathlib.Core.Path.{ap, ◌∙◌}
use Rattle.std.specs.Prelude.{Option}
use Rattle.packing.specs.declared.message.Event.{Event}
use Rattle.server.specs.Explain.{explain_as, explain}
use Rattle.server.proofs.explain.waxglimmer_why_at.Goals as goal

pub returns : goal.returns
unfolding explain
returns c =
    c.explain_read.ensures
    ∙ ap (λ (o : Option Event). explain_as c.args.state.now o c.args.place c.args.room.now)
    c.unpack_at-read.ensures.value
