use mathlib.Core.Path.{◌≡◌}
use lib.ListN.{length}
use Rattle.bits.specs.Fields.{equal}
use Rattle.bits.proofs.tests.same.Given as goal

abbrev pub invariant-loop-x : goal.invariant-loop-x
invariant-loop-x l =
    let us = l.x-iterator.a.rest.now in
    let vs = l.x-iterator.b.rest.now in
    (length us ≡ length vs) × (equal l.a l.b ≡ equal us vs)
