use mathlib.Core.Path.{ap}
use native.Mathlib.Omega.{arith}
use lib.ListN.{length}
use Rattle.lines.proofs.DecimalLaws.{decimal-one}
use Rattle.lines.proofs.text.Text.number.Goals as goal

pub byte-requires : goal.byte-requires
byte-requires c = omega (arith, ap length (decimal-one c.args.n c.if-n-lt10.true), c.requires)

pub returns-then-n-lt10 : goal.returns-then-n-lt10
returns-then-n-lt10 c = rw (decimal-one c.args.n c.if-n-lt10.true) c.byte.ensures
