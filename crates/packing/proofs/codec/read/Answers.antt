use mathlib.Core.Path.{refl, sym}
use borrow.Author.Tests.{eq-eqb, ne_eqb}
use Rattle.packing.proofs.codec.read.Goals as goal

pub returns-then-s-n : goal.returns-then-s-n
returns-then-s-n c = record { long = sym (eq-eqb _ _ c.if-s-n.true); read = c.read_all.ensures }

pub returns-else-s-n : goal.returns-else-s-n
returns-else-s-n c = record { long = sym (ne_eqb _ _ c.if-s-n.false); read = refl }
