use mathlib.Core.Path.{◌≡◌, ◌∙◌}
use lib.Dec.{eqb}
use lib.ListN.{take}
use borrow.Author.Rules.{rules}
use Rattle.std.specs.List.{list_any}
use Rattle.soundness.proofs.StdLaws.{any-std}
use Rattle.soundness.proofs.figures.is_listed.Goals as goal

pub returns : goal.returns
returns c =
    let first = take c.args.n c.args.numbers.now in
    let e : c.contains.result ≡ list_any (eqb c.args.number) first = search rules in
    e ∙ any-std (eqb c.args.number) first
