use Rattle.arrival.proofs.EnterLaws.{enters-posts}
use Rattle.arrival.proofs.arrive.stops_at_once.Goals as goal

pub stop_for-requires : goal.stop_for-requires
stop_for-requires c = enters-posts c.requires.enters
