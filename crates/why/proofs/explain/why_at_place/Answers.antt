use Rattle.handler.specs.Acts.{Accepted}
use mathlib.Core.Path.{refl, sym, ap, subst, ◌∙◌}
use Rattle.std.specs.Prelude.{Some}
use Rattle.why.specs.Why.{why_of}
use Rattle.why.proofs.explain.why_at_place.Goals as goal

pub returns-in_default : goal.returns-in_default
returns-in_default c =
    let a = c.args in
    sym (ap (why_of a.series (Some a.event)) (sym c.read_report.ensures ∙ c.in_default.is))

pub reason_of-requires : goal.reason_of-requires
reason_of-requires c = subst (Accepted c.args.series) (sym c.ask_of.ensures) c.requires

pub returns : goal.returns
returns c =
    c.reason_of.ensures ∙ rw (c.ask_of.ensures, sym c.read_report.ensures ∙ c.in-Some.is) refl
