use Rattle.series_buffer.proofs.TableLaws.{told-after}
use Rattle.series_buffer.specs.Header.{is_set}
use lib.ListN.{length, length-drop}
use native.Mathlib.Omega.{arith}
use mathlib.Core.Path.{◌≡◌}
use borrow.Author.Rules.{rules}
use Rattle.series_buffer.proofs.head.flags.Goals as goal

pub returns : goal.returns
returns c = let whole : length c.args.xs ≡ 27 = search rules in told-after is_set 0 11 16 c.args.xs (omega (arith, length-drop 11 c.args.xs, whole))
