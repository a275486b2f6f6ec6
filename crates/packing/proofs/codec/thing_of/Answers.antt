use mathlib.Core.Bool.{true, false}
use mathlib.Core.Path.{sym, ◌∙◌}
use Rattle.packing.proofs.CodecLaws.{nothing-told, thing-if}
use Rattle.packing.proofs.codec.thing_of.Goals as goal

pub returns-in_err-thing : goal.returns-in_err-thing
returns-in_err-thing g c = c.from_residual.ensures ∙ sym (nothing-told g.T.Packs.codec c.args.xs (sym c.claimed.ensures ∙ c.in_err-thing.was))

pub returns-then-same-is_admitted : goal.returns-then-same-is_admitted
returns-then-same-is_admitted g c =
    sym (thing-if g.T.Packs.codec _ _ _ _ _ true (sym c.claimed.ensures ∙ c.in_ok-thing.was) c.code-ys.ensures c.same.ensures c.is_admitted.ensures
    c.if-same-is_admitted.true)

pub returns-else-same-is_admitted : goal.returns-else-same-is_admitted
returns-else-same-is_admitted g c =
    sym (thing-if g.T.Packs.codec _ _ _ _ _ false (sym c.claimed.ensures ∙ c.in_ok-thing.was) c.code-ys.ensures c.same.ensures c.is_admitted.ensures
    c.if-same-is_admitted.false)
