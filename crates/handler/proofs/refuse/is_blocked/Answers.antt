use mathlib.Core.Path.{sym, ◌∙◌}
use native.Mathlib.Omega.{arith}
use Rattle.handler.proofs.HandleLaws.{quote-party}
use Rattle.handler.proofs.refuse.is_blocked.Goals as goal

pub overflow_sub-i : goal.overflow_sub-i
overflow_sub-i c = omega (arith, (quote-party c.args.a (sym c.is_quoting.ensures ∙ c.if-is_quoting.true) c.requires.a_value).0)

pub bounds-s-i : goal.bounds-s-i
bounds-s-i c = omega (arith, (quote-party c.args.a (sym c.is_quoting.ensures ∙ c.if-is_quoting.true) c.requires.a_value).1, c.requires.blocked_len)

pub returns-then-is_quoting : goal.returns-then-is_quoting
returns-then-is_quoting c = rw (sym c.is_quoting.ensures ∙ c.if-is_quoting.true)

pub returns : goal.returns
returns c = rw (sym c.is_quoting.ensures ∙ c.if-is_quoting.false)
