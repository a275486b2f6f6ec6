use mathlib.Core.Bool.{true, false}
use mathlib.Core.Path.{sym, ◌∙◌}
use native.Mathlib.Omega.{arith}
use Rattle.prices.specs.Reasons.{number_of}
use Rattle.arrival.proofs.CancelLaws.{asks-reason}
use Rattle.arrival.proofs.EnterLaws.{reject-room, both_first, both-second, both-done, one-first, one-done}
use Rattle.arrival.proofs.arrive.reject.Goals as goal

pub tell-requires : goal.tell-requires
tell-requires c = reject-room (number_of c.args.why) c.args.e c.requires _ (rw c.from.ensures at c.tell_rejected.ensures)

pub cut_quote-c-requires : goal.cut_quote-c-requires
cut_quote-c-requires c =
    let e = c.args.e in
    asks-reason 30 e.party false _ (omega arith)
    (both_first (number_of c.args.why) c.args.e c.requires _ (rw c.from.ensures at c.tell_rejected.ensures) c.tell.ensures.put
    (sym c.is_of_both.ensures ∙ c.if-is_of_both.true))

pub cut_quote-requires : goal.cut_quote-requires
cut_quote-requires c =
    let e = c.args.e in
    asks-reason 30 e.party true _ (omega arith)
    (both-second (number_of c.args.why) c.args.e c.requires _ (rw c.from.ensures at c.tell_rejected.ensures) c.tell.ensures.put
    (sym c.is_of_both.ensures ∙ c.if-is_of_both.true) c.cut_quote-c.ensures.told)

pub returns-then-is_of_both-clause-told : goal.returns-then-is_of_both-clause-told
returns-then-is_of_both-clause-told c =
    both-done (number_of c.args.why) c.args.e c.requires _ (rw c.from.ensures at c.tell_rejected.ensures) c.tell.ensures.put
    (sym c.is_of_both.ensures ∙ c.if-is_of_both.true) c.cut_quote-c.ensures.told c.cut_quote.ensures.told

pub cut_quote-requires-2 : goal.cut_quote-requires-2
cut_quote-requires-2 c =
    let e = c.args.e in
    asks-reason 30 e.party e.sell _ (omega arith)
    (one-first (number_of c.args.why) c.args.e c.requires _ (rw c.from.ensures at c.tell_rejected.ensures) c.tell.ensures.put
    (sym c.is_of_both.ensures ∙ c.if-is_of_both.false))

pub returns-clause-told : goal.returns-clause-told
returns-clause-told c =
    one-done (number_of c.args.why) c.args.e c.requires _ (rw c.from.ensures at c.tell_rejected.ensures) c.tell.ensures.put
    (sym c.is_of_both.ensures ∙ c.if-is_of_both.false) c.cut_quote-2.ensures.told
