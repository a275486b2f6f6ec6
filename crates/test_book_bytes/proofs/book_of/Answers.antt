use Rattle.test_book_bytes.proofs.LayoutLaws.{read_none, read_more, read_all}
use Rattle.test_book_bytes.proofs.book_of.Goals as goal

pub loop-i-init : goal.loop-i-init
loop-i-init c = read_none c.args.bytes.now c.empty-b.result c.number_at.result c.empty-b.ensures c.number_at.ensures

pub loop-i-preserved : goal.loop-i-preserved
loop-i-preserved c =
    let s = c.loop-i in
    read_more c.args.bytes.now s.b s.i c.entry_at.result s.invariant c.loop-i-test.true c.entry_at.ensures

pub returns : goal.returns
returns c = read_all c.args.bytes.now c.loop-i.b c.loop-i.i c.loop-i.invariant c.loop-i-test.false
