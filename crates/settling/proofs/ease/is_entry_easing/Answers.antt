use Rattle.settling.proofs.ease.is_entry_easing.Goals as goal

pub returns-in-Sliding : goal.returns-in-Sliding
returns-in-Sliding c = rw (c.in-Sliding.is, c.is_easing.ensures, c.away_of.ensures)
