use Rattle.book.specs.Shape.{entries_of}
use borrow.Author.Rules.{rules}
use mathlib.Core.Path.{sym, ◌∙◌}
use Rattle.lists.proofs.Bools.{and_left}
use Rattle.handler.proofs.AcceptLaws.{settles-next, accept-done}
use Rattle.handler.proofs.HandleLaws.{acts-accepted}
use Rattle.handler.proofs.Accepted.{own_room}
use Rattle.handler.proofs.Passed.{facts, tests}
use Rattle.handler.proofs.handle.accept.Goals as goal

pub act-b-requires-clause-roomy : goal.act-b-requires-clause-roomy
act-b-requires-clause-roomy c =
    rw (c.new-reports.ensures.none_yet, c.new-reports.ensures.as_lent)
    (own_room c.args.s c.args.a (acts-accepted c.requires.acts) _ c.requires.room_size_in_bounds)

pub terms_after-t-requires : goal.terms_after-t-requires
terms_after-t-requires c = (facts c.args.s c.args.a (acts-accepted c.requires.acts)).sound.most

pub settle_if-after-requires : goal.settle_if-after-requires
settle_if-after-requires c =
    let first = rw (c.new-reports.ensures.none_yet, c.new-reports.ensures.as_lent) at c.act-b.ensures.told in
    settles-next c.args.s c.args.a c.requires.acts c.requires.room_size_in_bounds first _ c.terms_after-t.ensures

pub put_together-series-requires : goal.put_together-series-requires
put_together-series-requires c =
    record {
      maker = λ q. and_left _ _ (sym (c.is_blocking-blocking.ensures (entries_of c.args.s.book)) ∙ q);
      party = (tests c.args.s c.args.a (acts-accepted c.requires.acts)).party;
      blocks = c.requires.acts.whole.blocks;
    }

pub returns : goal.returns
returns c =
    let first = rw (c.new-reports.ensures.none_yet, c.new-reports.ensures.as_lent) at c.act-b.ensures.told in
    let done =
    accept-done c.args.s c.args.a c.requires.acts c.requires.room_size_in_bounds first _ c.terms_after-t.ensures
    c.settle_if-after.ensures.told _ (c.is_blocking-blocking.ensures (entries_of c.args.s.book)) _ c.put_together-series.ensures in
    rw (← done) (search rules)
