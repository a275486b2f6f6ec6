use Rattle.telling.proofs.StageLaws.{roomy-told, staged-go}
use Rattle.telling.specs.Tell.{cancelled}
use Rattle.book.proofs.ChangeLaws.{without-fits}
use Rattle.book.proofs.ShapeLaws.{entry_at}
use Rattle.book.specs.Shape.{zero_entry, entries_of}
use Rattle.lists.specs.Places.{without}
use native.Mathlib.Omega.{arith}
use mathlib.Core.Path.{sym, ap, ◌∙◌}
use Rattle.arrival.proofs.cancel.cut_at.Goals as goal

pub tell-requires : goal.tell-requires
tell-requires c =
    roomy-told
    (c.tell_cancelled.ensures
    ∙ ap (cancelled c.args.why) (sym (entry_at c.args.b c.args.i zero_entry c.requires.place.inside))) c.requires.roomy

pub returns-clause-told : goal.returns-clause-told
returns-clause-told c =
    staged-go (entries_of c.args.b) (without c.args.i (entries_of c.args.b))
    (c.tell_cancelled.ensures
    ∙ ap (cancelled c.args.why) (sym (entry_at c.args.b c.args.i zero_entry c.requires.place.inside))) c.tell.ensures.put
    c.removed.ensures (omega (arith, without-fits c.args.b c.args.i c.requires.place))
