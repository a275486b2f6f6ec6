use borrow.Author.Tests.{ne_eqb}
use native.Mathlib.Omega.{arith}
use Rattle.handler.proofs.HandleLaws.{enable-maker, quote-party}
use Rattle.handler.proofs.Passed.{maker-within}
use Rattle.handler.proofs.handle.put_together.Goals as goal

pub overflow_sub-i : goal.overflow_sub-i
overflow_sub-i c = omega (arith, (maker-within c.args.a (enable-maker c.args.a c.if-a-eq-ENABLE.true) c.requires.party).0)

pub bounds-out-i : goal.bounds-out-i
bounds-out-i c = omega (arith, (maker-within c.args.a (enable-maker c.args.a c.if-a-eq-ENABLE.true) c.requires.party).1, c.requires.blocks)

pub returns-then-a-eq-ENABLE : goal.returns-then-a-eq-ENABLE
returns-then-a-eq-ENABLE c = rw c.if-a-eq-ENABLE.true

pub overflow_sub-i-then-blocking : goal.overflow_sub-i-then-blocking
overflow_sub-i-then-blocking c = omega (arith, (quote-party c.args.a (c.requires.maker c.if-blocking.true) c.requires.party).0)

pub bounds-out-i-then-blocking : goal.bounds-out-i-then-blocking
bounds-out-i-then-blocking c = omega (arith, (quote-party c.args.a (c.requires.maker c.if-blocking.true) c.requires.party).1, c.requires.blocks)

pub returns-then-blocking : goal.returns-then-blocking
returns-then-blocking c = rw (ne_eqb _ _ c.if-a-eq-ENABLE.false, c.if-blocking.true)

pub returns : goal.returns
returns c = rw (ne_eqb _ _ c.if-a-eq-ENABLE.false, c.if-blocking.false)
