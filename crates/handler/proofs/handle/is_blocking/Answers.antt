use mathlib.Core.Path.{sym, ap, ◌∙◌}
use Rattle.prices.specs.declared.Guard.{Guard}
use Rattle.prices.specs.Test.{holds}
use Rattle.prices.specs.Protect.{test25, test26}
use Rattle.handler.proofs.HandleLaws.{never_blocks, blocking-quote}
use Rattle.handler.proofs.handle.is_blocking.Goals as goal

pub returns-then-not-is_quoting : goal.returns-then-not-is_quoting
returns-then-not-is_quoting c = never_blocks c.args.t c.args.a (sym c.is_quoting.ensures ∙ c.if-not-is_quoting.true)

pub returns : goal.returns
returns c =
    let a = c.args in
    let g = c.guard_of-guard.ensures in
    blocking-quote a.t a.a _ _ (sym c.is_quoting.ensures ∙ c.if-not-is_quoting.false)
    (c.is_above_underlying.ensures ∙ ap (λ (x : Guard). holds a.a.sell (test25 x a.a.sell a.a.price)) g)
    (c.is_above_strike.ensures ∙ ap (λ (x : Guard). holds a.a.sell (test26 x a.a.sell a.a.price)) g)
