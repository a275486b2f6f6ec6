use borrow.Author.Tests.{eq-eqb, ne_eqb}
use Rattle.test_book_bytes.proofs.pricing_of.Goals as goal

pub returns-then-sort-eq0 : goal.returns-then-sort-eq0
returns-then-sort-eq0 c = rw (eq-eqb _ 0 c.if-sort-eq0.true)

pub returns-then-sort-eq1 : goal.returns-then-sort-eq1
returns-then-sort-eq1 c = rw (ne_eqb _ 0 c.if-sort-eq0.false, eq-eqb _ 1 c.if-sort-eq1.true)

pub returns : goal.returns
returns c = rw (ne_eqb _ 0 c.if-sort-eq0.false, ne_eqb _ 1 c.if-sort-eq1.false)
