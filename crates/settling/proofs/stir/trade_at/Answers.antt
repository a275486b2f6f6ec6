use Rattle.settling.proofs.RankLaws.{trade-two, trade-is, trade-none}
use Rattle.telling.proofs.StageLaws.{staged-stop, staged-step, roomy-step}
use Rattle.book.specs.Shape.{entries_of}
use mathlib.Core.Path.{sym, ◌∙◌}
use Rattle.settling.proofs.stir.trade_at.Goals as goal

pub returns-in_default-clause-told : goal.returns-in_default-clause-told
returns-in_default-clause-told c =
    staged-step (entries_of c.args.b)
    (trade-none c.args.b c.args.i c.requires.place (sym c.in_default.is ∙ c.best_contra.ensures))
    (staged-stop c.requires.place.well)

pub deal-requires : goal.deal-requires
deal-requires c =
    let e = sym c.in-Some.is ∙ c.best_contra.ensures in
    record {
      two = trade-two c.args.b c.args.i c.requires.place c.in-Some.j e;
      roomy =
          roomy-step (entries_of c.args.b) (trade-is c.args.b c.args.i c.requires.place c.in-Some.j e)
          c.requires.roomy;
    }

pub returns-clause-told : goal.returns-clause-told
returns-clause-told c =
    staged-step (entries_of c.args.b)
    (trade-is c.args.b c.args.i c.requires.place c.in-Some.j
    (sym c.in-Some.is ∙ c.best_contra.ensures)) c.deal.ensures.told
