use Rattle.telling.proofs.StageLaws.{staged-go}
use Rattle.book.proofs.ChangeLaws.{requeue-fits}
use Rattle.book.specs.Shape.{entries_of}
use Rattle.lists.specs.Places.{requeue}
use Rattle.settling.proofs.ease.move_to.Goals as goal

pub returns-clause-told : goal.returns-clause-told
returns-clause-told c =
    staged-go (entries_of c.args.b) (requeue c.args.i c.args.e (entries_of c.args.b)) c.tell_repriced.ensures
    c.tell.ensures.put c.requeued.ensures (requeue-fits c.args.b c.args.i c.args.e c.requires.place)
