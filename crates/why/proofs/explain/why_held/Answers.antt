use mathlib.Core.Path.{refl, ap}
use borrow.Author.Tests.{le-leb}
use Rattle.handler.proofs.RefuseLaws.{numbered}
use Rattle.why.proofs.ExplainLaws.{explains-own, explains-12, read_some, accepts-event, front_fits, explains-reason}
use Rattle.why.proofs.explain.why_held.Goals as goal

pub returns-in-Err : goal.returns-in-Err
returns-in-Err c =
    let a = c.args in
    explains-own a.series a.read a.place a.room.now a.held.now c.requires.0 c.requires.1 _ _ c.in-Err.ensures (numbered _)

pub returns-in-Ok-2 : goal.returns-in-Ok-2
returns-in-Ok-2 c =
    let a = c.args in
    explains-12 a.series a.read a.place a.room.now a.held.now c.requires.0 c.requires.1 _ _ c.in-Ok.ensures refl
    (le-leb _ _ c.if-place-answer.false)

pub returns-in_default : goal.returns-in_default
returns-in_default c =
    let a = c.args in
    absurd (read_some a.series a.read a.place a.room.now a.held.now c.requires.0 c.requires.1 _ _ c.in-Ok.ensures refl
    c.in_default.is)

pub told_in-requires : goal.told_in-requires
told_in-requires c =
    let a = c.args in
    let e = c.in-Some.is in record {
      accepted = accepts-event a.series a.read a.place a.room.now a.held.now c.requires.0 c.requires.1 _ _ c.in-Ok.ensures refl _ e;
      count_in_bounds = front_fits a.series a.read a.place a.room.now a.held.now c.requires.0 c.requires.1 _ _ c.in-Ok.ensures refl _ e;
    }

pub returns : goal.returns
returns c =
    let a = c.args in
    explains-reason a.series a.read a.place a.room.now a.held.now c.requires.0 c.requires.1 _ _ c.in-Ok.ensures refl _
    c.in-Some.is c.if-place-answer.true _ c.told_in.ensures.room_after _ c.told_in.ensures.value
