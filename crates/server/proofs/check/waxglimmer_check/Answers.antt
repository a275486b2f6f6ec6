use mathlib.Core.Path.{ap, ◌∙◌}
use Rattle.std.specs.Prelude.{Option}
use Rattle.packing.specs.declared.message.Event.{Event}
use Rattle.server.specs.Check.{check_as, check}
use Rattle.server.proofs.check.waxglimmer_check.Goals as goal

pub returns : goal.returns
unfolding check
returns c =
    c.number_in.ensures ∙ c.check_read.ensures
    ∙ ap (λ (o : Option Event). check_as o c.args.m) c.unpack.ensures.value
