use mathlib.Core.Path.{sym, ◌∙◌}
use Rattle.settling_theory.proofs.Quiet.{quiet}
use Rattle.soundness_theory.proofs.MarketFacts.{sound-for}
use Rattle.telling.proofs.StageLaws.{staged-as, staged-none}
use Rattle.handler.proofs.handle.settle_open.Goals as goal

pub returns-clause-told : goal.returns-clause-told
returns-clause-told c =
    let a = c.args in
    let p = c.requires in
    let so = sound-for p.sound in
    staged-as (sym (quiet so.0 so.1 (sym c.is_stirring.ensures ∙ c.if-is_stirring.false)))
    (staged-none a.b a.reports.now.room.now a.reports.now.count p.well)
