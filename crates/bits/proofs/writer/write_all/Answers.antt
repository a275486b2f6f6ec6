use borrow.Author.Rules.{rules}
use native.Mathlib.Omega.{arith}
use mathlib.Core.Logic.{⊎_elim}
use mathlib.Core.Path.{◌≡◌}
use lib.ListN.{length}
use Rattle.bits.specs.Fields.{value}
use Rattle.bits.proofs.WriteLaws.{writing_start, writing_step, writing-done, written}
use Rattle.bits.proofs.writer.write_all.Goals as goal

pub loop-w-init : goal.loop-w-init
loop-w-init c =
    let a = c.args in
    let e : c.into_iter-w-iterator.result.a.rest.now ≡ a.ws.now = search rules in
    let f : c.into_iter-w-iterator.result.b.rest.now ≡ a.xs.now = search rules in
    rw (e, f) (writing_start a.ws.now a.xs.now a.out.now (λ i. (c.type_inv.out i).fits) c.requires.1 c.requires.2)

pub loop-w-preserved : goal.loop-w-preserved
loop-w-preserved c =
    let a = c.args in
    let steps = c.in-Some.ensures.steps in
    writing_step a.ws.now a.xs.now a.out.now c.loop-w.out c.put.new.out _ _ _ _ (rw (steps.0, steps.1) at c.loop-w.invariant)
    c.put.auto.out (rw c.from.ensures at c.put.ensures.0) c.put.ensures.1

pub returns : goal.returns
returns c =
    let a = c.args in
    let l = c.loop-w in
    let z : length l.w-iterator.a.rest.now ≡ 0 =
    ⊎_elim (λ p. p.1.0) (λ p. omega (arith, l.invariant.long, p.1.0)) c.in-None.ensures.steps in
    written a.ws.now a.xs.now l.out (length a.out.now) (value a.out.now) l.invariant.same l.invariant.ok c.requires.0
    (writing-done a.ws.now a.xs.now a.out.now l.out _ _ l.invariant z)
