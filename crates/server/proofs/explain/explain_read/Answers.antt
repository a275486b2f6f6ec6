use Rattle.server.proofs.ExplainLaws.{told-in-numbers}
use Rattle.server.proofs.explain.explain_read.Goals as goal

pub returns : goal.returns
returns c = told-in-numbers _ _ _ _ c.tell_numbers.ensures c.why_held-answer.ensures
