use mathlib.Core.Path.{sym, ap, ◌∙◌}
use Rattle.handler.specs.Asked.{ask_of}
use Rattle.handler.proofs.asking.ask_of.Goals as goal

pub returns-in-Plain : goal.returns-in-Plain
returns-in-Plain c = c.ask_to_enter.ensures ∙ sym (ap ask_of c.in-Plain.is)

pub returns-in-Mmlo : goal.returns-in-Mmlo
returns-in-Mmlo c = c.ask_to_enter-in-Mmlo.ensures ∙ sym (ap ask_of c.in-Mmlo.is)

pub returns-in-Mmalo : goal.returns-in-Mmalo
returns-in-Mmalo c = c.ask_to_enter-in-Mmalo.ensures ∙ sym (ap ask_of c.in-Mmalo.is)

pub returns-in-Mmrp : goal.returns-in-Mmrp
returns-in-Mmrp c = c.ask_to_enter-in-Mmrp.ensures ∙ sym (ap ask_of c.in-Mmrp.is)

pub returns-in-Displayed : goal.returns-in-Displayed
returns-in-Displayed c = c.ask_to_enter-in-Displayed.ensures ∙ sym (ap ask_of c.in-Displayed.is)

pub returns-in-Dark : goal.returns-in-Dark
returns-in-Dark c = c.ask_to_enter-in-Dark.ensures ∙ sym (ap ask_of c.in-Dark.is)
