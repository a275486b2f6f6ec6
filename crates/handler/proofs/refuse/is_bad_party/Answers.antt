use mathlib.Core.Path.{sym, ◌∙◌}
use Rattle.handler.proofs.refuse.is_bad_party.Goals as goal

pub returns-then-is_makers : goal.returns-then-is_makers
returns-then-is_makers c = rw (sym c.is_makers.ensures ∙ c.if-is_makers.true, c.is_between.ensures)

pub returns-then-is_carrying : goal.returns-then-is_carrying
returns-then-is_carrying c =
    rw (sym c.is_makers.ensures ∙ c.if-is_makers.false, sym c.is_carrying.ensures ∙ c.if-is_carrying.true, c.is_between-then-is_carrying.ensures)

pub returns : goal.returns
returns c = rw (sym c.is_makers.ensures ∙ c.if-is_makers.false, sym c.is_carrying.ensures ∙ c.if-is_carrying.false)
