use native.Mathlib.Omega.{arith}
use mathlib.Core.Path.{sym, ◌∙◌}
use lib.ListN.{length}
use Rattle.bench_played.proofs.PlayedLaws.{begins, goes-both, goes, ends}
use borrow.Author.Rules.{rules}
use Rattle.bench_played.proofs.play.Goals as goal

pub loop-series-init : goal.loop-series-init
loop-series-init c = begins c.args.start c.args.run.now c.args.out.now

pub is_next-requires : goal.is_next-requires
is_next-requires c = (c.loop-series.invariant.within, c.loop-series.invariant.room)

pub turn-next-requires : goal.turn-next-requires
turn-next-requires c =
    (goes-both (length c.args.run.now) c.loop-series.at (length c.loop-series.out) c.loop-series.used
    (sym c.is_next.ensures ∙ c.loop-series-test.true)).1

pub loop-series-smaller : goal.loop-series-smaller
loop-series-smaller c =
    omega (
      arith,
      (goes-both (length c.args.run.now) c.loop-series.at (length c.loop-series.out) c.loop-series.used
          (sym c.is_next.ensures ∙ c.loop-series-test.true)).0,
    )

pub loop-series-preserved : goal.loop-series-preserved
loop-series-preserved c = goes c.loop-series.invariant (sym c.is_next.ensures ∙ c.loop-series-test.true) c.turn-next.ensures (search rules)

pub returns : goal.returns
returns c = ends c.loop-series.invariant (sym c.is_next.ensures ∙ c.loop-series-test.false)
