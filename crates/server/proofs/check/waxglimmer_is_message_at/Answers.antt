use mathlib.Core.Path.{ap, ◌∙◌}
use mathlib.Core.List.{List}
use Prim.Native.Nat.{ℕ}
use Rattle.server.proofs.check.waxglimmer_is_message_at.Goals as goal

pub returns : goal.returns
returns c = c.number_of.ensures ∙ ap (λ (p : ℕ × List ℕ). p.0) c.unpack_at.ensures.result_value
