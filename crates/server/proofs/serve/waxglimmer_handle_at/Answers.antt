use mathlib.Core.Path.{ap, ◌∙◌}
use Rattle.std.specs.Prelude.{Option}
use Rattle.packing.specs.declared.message.Event.{Event}
use Rattle.server.specs.Serve.{serve_as, serve}
use Rattle.server.proofs.serve.waxglimmer_handle_at.Goals as goal

pub returns : goal.returns
unfolding serve
returns c =
    c.serve_read.ensures
    ∙ ap (λ (o : Option Event). serve_as c.args.state.now o c.args.room.now) c.unpack_at-read.ensures.value
