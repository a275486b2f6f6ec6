use Rattle.settling.proofs.Judging as Judging
use Rattle.settling.proofs.ease.eased_entry.Goals as goal

pub returns : goal.returns
returns c =
    Judging.eased-entry c.args.market c.args.e c.repriced.result c.display_of-display.ensures c.away_of.ensures
    c.eased_to-working.ensures c.repriced.ensures
