-- "It never trades above A (a sell never below the away bid)": every trade of settling is within the away price of its taker.
-- Assumes nothing.
use Prim.Native.Nat.{ℕ, ◌≤◌}
use mathlib.Core.Path.{◌≡◌}
use mathlib.Core.Bool.{Bool, true, not, ◌&&◌}
use mathlib.Core.List.{List}
use native.Mathlib.Omega.{arith}
use lib.Dec.{eqb}
use borrow.Author.Tests.{not-true}
use Rattle.prices.specs.declared.Prices.{Prices}
use Rattle.prices.specs.declared.Market.{Market}
use Rattle.prices.specs.Side.{reaches}
use Rattle.kinds.specs.Kinds.{minds}
use Rattle.prices.specs.Rest.{marketable}
use Rattle.prices.proofs.FrameLaws.{seen, reaches-true}
use Rattle.prices.proofs.AimLaws.{faced, aimed, aims-away}
use Rattle.lists.proofs.Bools.{and_left, and_right}
use Rattle.packing.specs.declared.report.Report.{Report}
use Rattle.book.specs.declared.Entry.{Entry}
use Rattle.book.specs.Look.{contra}
use Rattle.soundness_theory.proofs.Facts.{Sound}
use Rattle.soundness_theory.proofs.FrontLaws.{if-any-contra, best-front}
use Rattle.soundness_theory.proofs.KeepLaws.{here-facts}
use Rattle.settling_theory.specs.Settle.{aims_in}
use Rattle.settling_theory.proofs.Shapes.{EaseStep, eased-at, StirStep, traded-at, moved_at}
use Rattle.soundness_theory.proofs.MarketFacts.{MarketFacts}
use Rattle.telling.proofs.Within.{TradesWithin, within-away}

-- the working aim of who is marketable reaches C
aim-reaches : (kind : ℕ) (s : Bool) (c : ℕ) (p : Prices) → marketable kind s c p ≡ true → faced s c ≤ seen s p.working
unfolding marketable faced
aim-reaches kind s c p h =
    let g : (not (eqb c 0) && reaches s p.working c) ≡ true = and_right (not (minds kind)) (not (eqb c 0) && reaches s p.working c) h in
    rw (not-true (eqb c 0) (and_left (not (eqb c 0)) (reaches s p.working c) g))
    (reaches-true s p.working c (and_right (not (eqb c 0)) (reaches s p.working c) g))

pub ease-within : {k : Market} {l t : List Entry} {r : Report} → EaseStep k l r t → TradesWithin k r
ease-within (eased-at c) = tt

-- the taker's working aim is within the away price and reaches C, which is the price of the one best contra entry
pub stir-within : {k : Market} {top : ℕ} {l t : List Entry} {r : Report} → MarketFacts k → Sound k.m top l → StirStep k l r t → TradesWithin k r
stir-within {k} {l = l} mk so (traded-at {i = i} {j = j} {e = e} {y = y} c m b) =
    within-away mk e.sell y.working (omega (arith, (here-facts so j y b.chosen.there).works.high))
    (omega (
      arith,
      best-front so b,
      aim-reaches e.kind e.sell (contra e.sell l) (aims_in k l e) m,
      aims-away e.sell mk.step (mk.legal e.sell) (aims_in k l e)
          (aimed e.kind e.sell mk.step (here-facts so i e c.there).limit (mk.legal e.sell) (if-any-contra e.sell so)),
    ))
stir-within mk so (moved_at c m) = tt
