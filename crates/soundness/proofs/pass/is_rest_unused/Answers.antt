use mathlib.Core.Path.{ap, ◌∙◌}
use native.Mathlib.Omega.{arith}
use lib.ListN.{drop, length-drop}
use lib.Seq.{take_all}
use borrow.Author.Rules.{rules}
use Rattle.std.specs.List.{list_all}
use Rattle.soundness_theory.specs.Sound.{unused_entry}
use Rattle.soundness.proofs.StdLaws.{all-std}
use Rattle.soundness.proofs.pass.is_rest_unused.Goals as goal

pub returns : goal.returns
returns c =
    let rest = drop c.args.b.count c.args.b.entries in (
      c.are_unused.ensures ∙ ap (list_all unused_entry) (take_all _ rest (omega (arith, length-drop c.args.b.count c.args.b.entries)))
          ∙ all-std unused_entry rest,
      search rules,
    )
