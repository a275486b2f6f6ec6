use mathlib.Core.Path.{sym, ◌∙◌}
use Rattle.arrival.proofs.EnterLaws.{national-cents}
use Rattle.why.proofs.AcceptLaws.{comer-fits, comer-enters, left-figures-are, left-none}
use Rattle.why.proofs.figures.left_figures.Goals as goal

pub returns-then-not-is_entering : goal.returns-then-not-is_entering
returns-then-not-is_entering c =
    c.figures.ensures
    ∙ left-none c.args.s c.args.a c.requires (sym c.is_entering.ensures ∙ c.if-not-is_entering.true)
    c.args.rule

pub comer_of-e-requires : goal.comer_of-e-requires
comer_of-e-requires c =
    let few = comer-fits c.args.s c.args.a c.requires (sym c.is_entering.ensures ∙ c.if-not-is_entering.false) in
    record { given_le_last_number = few.0; party_bound = few.1.0; kind_bound = few.1.1 }

pub book_left-left-requires : goal.book_left-left-requires
book_left-left-requires c =
    comer-enters c.args.s c.args.a c.requires (sym c.is_entering.ensures ∙ c.if-not-is_entering.false) _
    c.comer_of-e.ensures _ c.facing_in-f.ensures

pub figures_for-requires : goal.figures_for-requires
figures_for-requires c =
    let n = comer-enters c.args.s c.args.a c.requires (sym c.is_entering.ensures ∙ c.if-not-is_entering.false) _
    c.comer_of-e.ensures _ c.facing_in-f.ensures in
    record { posts = c.book_left-left.ensures.posts; cents = national-cents n }

pub returns : goal.returns
returns c =
    c.figures_for.ensures
    ∙ left-figures-are c.args.s c.args.a c.requires (sym c.is_entering.ensures ∙ c.if-not-is_entering.false)
    c.args.rule _ c.comer_of-e.ensures _ c.facing_in-f.ensures _ c.book_left-left.ensures
