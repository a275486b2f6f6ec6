use native.Mathlib.Omega.{arith}
use mathlib.Core.Path.{sym, ap, ◌∙◌}
use Rattle.book.specs.Shape.{entries_of}
use Rattle.book.proofs.ShapeLaws.{length-entries}
use Rattle.handler.proofs.HandleLaws.{quote-party, full-none, full-space, full-order, full-quote, seat-empty}
use mathlib.Core.Bool.{not}
use Rattle.handler.proofs.refuse.is_full.Goals as goal

pub returns-then-not-is_entering : goal.returns-then-not-is_entering
returns-then-not-is_entering c = full-none (entries_of c.args.b) c.args.a (sym c.is_entering.ensures ∙ c.if-not-is_entering.true)

pub returns-then-b-lt64 : goal.returns-then-b-lt64
returns-then-b-lt64 c = full-space (entries_of c.args.b) c.args.a (omega (arith, length-entries c.args.b c.requires.well_formed, c.if-b-lt64.true))

pub returns-then-not-is_quoting : goal.returns-then-not-is_quoting
returns-then-not-is_quoting c =
    full-order (entries_of c.args.b) c.args.a (sym c.is_entering.ensures ∙ c.if-not-is_entering.false)
    (omega (arith, length-entries c.args.b c.requires.well_formed, c.if-b-lt64.false))
    (sym c.is_quoting.ensures ∙ c.if-not-is_quoting.true)

pub overflow_cast-party : goal.overflow_cast-party
overflow_cast-party c = omega (arith, (quote-party c.args.a (sym c.is_quoting.ensures ∙ c.if-not-is_quoting.false) c.requires.a_value).1)

pub has_quote-requires : goal.has_quote-requires
has_quote-requires c = (quote-party c.args.a (sym c.is_quoting.ensures ∙ c.if-not-is_quoting.false) c.requires.a_value).1

pub returns : goal.returns
returns c =
    let p = quote-party c.args.a (sym c.is_quoting.ensures ∙ c.if-not-is_quoting.false) c.requires.a_value in
    ap not c.has_quote.ensures ∙ seat-empty c.requires.summary c.args.a.party c.args.a.sell p.0 p.1
    ∙ full-quote (entries_of c.args.b) c.args.a (omega (arith, length-entries c.args.b c.requires.well_formed, c.if-b-lt64.false))
    (sym c.is_quoting.ensures ∙ c.if-not-is_quoting.false)
