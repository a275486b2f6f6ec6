use native.Mathlib.Omega.{arith}
use mathlib.Core.Path.{ap}
use lib.ListN.{length}
use Rattle.lines.proofs.DecimalLaws.{told-decimal}
use Rattle.lines.proofs.text.Text.digits.Goals as goal

pub word-requires : goal.word-requires
word-requires c =
    let d = c.decimal-k in
    let t = told-decimal c.args.n d.result d.new.out d.ensures.in_bounds d.ensures.len d.ensures.digits in
    omega (arith, ap length t.0, c.requires)

pub returns : goal.returns
returns c =
    let d = c.decimal-k in
    let t = told-decimal c.args.n d.result d.new.out d.ensures.in_bounds d.ensures.len d.ensures.digits in
    rw t.0 at c.word.ensures
