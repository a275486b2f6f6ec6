use Rattle.book.proofs.ChangeLaws.{requeues}
use Rattle.book.proofs.change.requeued.Goals as goal

pub returns : goal.returns
returns c = requeues c.args.b c.args.i c.args.e c.rotate_left.new.self c.requires c.rotate_left.ensures.after
