use Rattle.book.specs.Shape.{entries_of}
use mathlib.Core.Path.{refl, sym}
use Rattle.prices.proofs.ReasonLaws.{some-number}
use Rattle.telling.proofs.StageLaws.{staged-as}
use Rattle.arrival.proofs.EnterLaws.{arrived-enters, arrived-rejected}
use Rattle.arrival.proofs.EnteredLaws.{arrive-rejects, arrive-enters}
use Rattle.arrival.proofs.arrive.arrive.Goals as goal

pub reject-requires : goal.reject-requires
reject-requires c = arrive-rejects c.requires _ c.in-Some.ensures (some-number c.in-Some.why)

pub returns-in-Some-clause-told : goal.returns-in-Some-clause-told
returns-in-Some-clause-told c =
    staged-as
    (sym (arrived-rejected c.args.t c.args.e (entries_of c.args.b) _ c.in-Some.ensures (some-number c.in-Some.why)))
    c.reject.ensures.told

pub enter-requires : goal.enter-requires
enter-requires c = arrive-enters c.requires 0 c.in_default.ensures _ c.is_trading-trading.ensures refl

pub returns-clause-told : goal.returns-clause-told
returns-clause-told c =
    staged-as (sym (arrived-enters c.args.t c.args.e (entries_of c.args.b) 0 c.in_default.ensures refl)) c.enter.ensures.told
