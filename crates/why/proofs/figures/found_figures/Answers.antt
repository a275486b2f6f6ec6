use mathlib.Core.Path.{sym, ◌∙◌}
use Rattle.arrival.proofs.EnterLaws.{enters-posts, national-cents}
use Rattle.why.proofs.AcceptLaws.{comer-fits, comer-enters, found-figures-are, found_none}
use Rattle.why.proofs.figures.found_figures.Goals as goal

pub returns-then-not-is_entering : goal.returns-then-not-is_entering
returns-then-not-is_entering c =
    c.figures.ensures
    ∙ found_none c.args.s c.args.a c.requires (sym c.is_entering.ensures ∙ c.if-not-is_entering.true)
    c.args.rule

pub comer_of-e-requires : goal.comer_of-e-requires
comer_of-e-requires c =
    let few = comer-fits c.args.s c.args.a c.requires (sym c.is_entering.ensures ∙ c.if-not-is_entering.false) in
    record { given_le_last_number = few.0; party_bound = few.1.0; kind_bound = few.1.1 }

pub figures_for-requires : goal.figures_for-requires
figures_for-requires c =
    let n = comer-enters c.args.s c.args.a c.requires (sym c.is_entering.ensures ∙ c.if-not-is_entering.false) _
    c.comer_of-e.ensures _ c.facing_in-f.ensures in
    record { posts = enters-posts n; cents = national-cents n }

pub returns : goal.returns
returns c =
    c.figures_for.ensures
    ∙ found-figures-are c.args.s c.args.a c.requires (sym c.is_entering.ensures ∙ c.if-not-is_entering.false)
    c.args.rule _ c.comer_of-e.ensures _ c.facing_in-f.ensures
