use borrow.Author.Tests.{ne_eqb}
use native.Mathlib.Omega.{arith}
use mathlib.Core.Path.{ap, ◌∙◌}
use Rattle.book.specs.Shape.{entries_of}
use mathlib.Core.Bool.{not}
use Rattle.book.specs.Look.{entry_of}
use Rattle.handler.proofs.HandleLaws.{cancel-carries, cancel-maker, seat-empty, gone}
use Rattle.handler.specs.Refuse.{gone_at}
use Rattle.handler.proofs.Passed.{any-party, maker-within}
use Rattle.handler.proofs.refuse.is_missing.Goals as goal

pub overflow_cast-party : goal.overflow_cast-party
overflow_cast-party c = omega (arith, (any-party c.args.a (cancel-carries c.args.a c.if-a-eq-CANCEL_ENTRY.true) c.requires.a_value).1)

pub returns-then-a-eq-CANCEL_ENTRY : goal.returns-then-a-eq-CANCEL_ENTRY
returns-then-a-eq-CANCEL_ENTRY c =
    rw c.if-a-eq-CANCEL_ENTRY.true
    (c.is_gone.ensures ∙ ap gone_at c.find_entry.ensures
    ∙ gone (entry_of c.args.a.party c.args.a.entry (entries_of c.args.b)))

pub overflow_cast-party-then-a-eq-CANCEL_QUOTE : goal.overflow_cast-party-then-a-eq-CANCEL_QUOTE
overflow_cast-party-then-a-eq-CANCEL_QUOTE c = omega (arith, (maker-within c.args.a (cancel-maker c.args.a c.if-a-eq-CANCEL_QUOTE.true) c.requires.a_value).1)

pub has_quote-requires : goal.has_quote-requires
has_quote-requires c = (maker-within c.args.a (cancel-maker c.args.a c.if-a-eq-CANCEL_QUOTE.true) c.requires.a_value).1

pub returns-then-a-eq-CANCEL_QUOTE : goal.returns-then-a-eq-CANCEL_QUOTE
returns-then-a-eq-CANCEL_QUOTE c =
    let p = maker-within c.args.a (cancel-maker c.args.a c.if-a-eq-CANCEL_QUOTE.true) c.requires.a_value in
    rw c.if-a-eq-CANCEL_QUOTE.true (ap not c.has_quote.ensures ∙ seat-empty c.requires.summary c.args.a.party c.args.a.sell p.0 p.1)

pub returns : goal.returns
returns c = rw (ne_eqb _ _ c.if-a-eq-CANCEL_ENTRY.false, ne_eqb _ _ c.if-a-eq-CANCEL_QUOTE.false)
