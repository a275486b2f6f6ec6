use Rattle.book.proofs.ChangeLaws.{posts}
use Rattle.book.proofs.change.posted.Goals as goal

pub returns : goal.returns
returns c = posts c.args.b c.args.e c.requires
