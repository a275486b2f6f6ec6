use mathlib.Core.Path.{sym, ◌∙◌}
use mathlib.Core.Bool.{not}
use native.Mathlib.Omega.{arith}
use Rattle.prices.specs.Reasons.{number_of}
use Rattle.arrival.proofs.CancelLaws.{asks-reason, quote-cuts, quote-cut}
use Rattle.arrival.proofs.EnterLaws.{other-asks, other-done, alone-done}
use Rattle.arrival.proofs.arrive.cancel_rest.Goals as goal

pub cut_rank-requires : goal.cut_rank-requires
cut_rank-requires c =
    let e = c.args.e in
    quote-cuts _ e.party (not e.sell) _ c.opposite_quote-rank.ensures
    (asks-reason 29 e.party (not e.sell) _ (omega arith)
    (other-asks (number_of c.args.why) c.args.e c.args.left c.requires _ _ c.remainder_of.ensures
    (rw c.from.ensures at c.tell_cancelled.ensures) c.tell.ensures.put (sym c.is_quote.ensures ∙ c.if-is_quote.true)))

pub returns-then-is_quote-clause-told : goal.returns-then-is_quote-clause-told
returns-then-is_quote-clause-told c =
    let e = c.args.e in
    other-done (number_of c.args.why) c.args.e c.args.left c.requires _ _ c.remainder_of.ensures
    (rw c.from.ensures at c.tell_cancelled.ensures) c.tell.ensures.put (sym c.is_quote.ensures ∙ c.if-is_quote.true)
    (quote-cut 29 e.party (not e.sell) _ c.opposite_quote-rank.ensures c.requires.well c.cut_rank.ensures.told)

pub returns-clause-told : goal.returns-clause-told
returns-clause-told c =
    alone-done (number_of c.args.why) c.args.e c.args.left c.requires _ _ c.remainder_of.ensures
    (rw c.from.ensures at c.tell_cancelled.ensures) c.tell.ensures.put (sym c.is_quote.ensures ∙ c.if-is_quote.false)
