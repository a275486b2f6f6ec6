use mathlib.Core.Path.{refl, ◌∙◌}
use Rattle.book.specs.Shape.{entries_of}
use Rattle.prices.proofs.ReasonLaws.{some-number}
use Rattle.arrival.proofs.EnterLaws.{national-cents, protected-by, rejects-first, rejects-then}
use Rattle.arrival.proofs.arrive.rejection_of.Goals as goal

pub protection_for-requires : goal.protection_for-requires
protection_for-requires c = national-cents c.requires.enters

pub returns-in-Some : goal.returns-in-Some
returns-in-Some c =
    rejects-first c.args.t c.args.e (entries_of c.args.b) _ (c.in-Some.ensures ∙ protected-by c.requires.enters)
    (some-number c.in-Some.why)

pub returns : goal.returns
returns c =
    rejects-then c.args.t c.args.e (entries_of c.args.b) 0 _ (c.in_default.ensures ∙ protected-by c.requires.enters) refl
    c.stops_at_once.ensures
