-- WHAT IS TOLD OF A REPORT: the reason, or that there is none to give.
-- Assumes nothing.
use Rattle.std.specs.Prelude.{Option}
use Rattle.why.specs.declared.Reason.{Reason}

abbrev pub Why : Type 0
Why = Option Reason
