use Rattle.test_book_bytes.proofs.LayoutLaws.{Read}
use Rattle.test_book_bytes.proofs.book_of.Given as goal

abbrev pub invariant-loop-i : goal.invariant-loop-i
invariant-loop-i l = Read l.bytes l.b l.i
