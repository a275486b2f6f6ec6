use Rattle.telling.proofs.StageLaws.{put_is}
use Rattle.telling.proofs.room.Reports.tell.Goals as goal

pub returns-clause-put : goal.returns-clause-put
returns-clause-put c = put_is c.requires c.put_report.ensures.1
