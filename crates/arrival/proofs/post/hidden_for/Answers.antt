use mathlib.Core.Path.{sym, ◌∙◌, ap}
use Rattle.kinds.specs.Kinds.{light}
use Rattle.arrival.proofs.post.hidden_for.Goals as goal

pub returns-then-is_light : goal.returns-then-is_light
returns-then-is_light c = rw (sym (c.is_light.ensures ∙ ap light c.kind_of.ensures) ∙ c.if-is_light.true) c.best_hidden.ensures

pub returns : goal.returns
returns c = rw (sym (c.is_light.ensures ∙ ap light c.kind_of.ensures) ∙ c.if-is_light.false)
