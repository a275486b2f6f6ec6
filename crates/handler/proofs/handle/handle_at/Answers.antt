use mathlib.Core.Path.{ap, ◌∙◌}
use Rattle.std.specs.Prelude.{Option}
use Rattle.packing.specs.declared.message.Event.{Event}
use Rattle.handler.specs.Handle.{handled_as, handled}
use Rattle.handler.proofs.handle.handle_at.Goals as goal

pub returns : goal.returns
unfolding handled
returns c =
    c.handle_read.ensures
    ∙ ap (λ (o : Option Event). handled_as c.args.series o c.args.room.now) c.unpack_at.ensures.value
