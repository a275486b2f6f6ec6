-- WHAT BECOMES OF AN ENTRY IN SETTLING: it still rests, under its number, or a trade names it. And every report of settling is of a trade or a move.
-- Assumes nothing.
use Prim.Native.Nat.{ℕ, min}
use mathlib.Core.Path.{◌≡◌, refl}
use mathlib.Core.Bool.{Bool, true, false}
use mathlib.Core.List.{List, ◌++◌}
use mathlib.Core.Logic.{◌⊎◌, inl, inr}
use lib.Dec.{eqb}
use borrow.Author.Tests.{eqb-true, eqb-false}
use Rattle.prices.specs.declared.Market.{Market}
use Rattle.lists.specs.Tests.{All}
use Rattle.packing.specs.declared.report.Report.{Report}
use Rattle.packing.specs.declared.report.Report.TheVariants.{Noted, Rejected, Traded, Rested, Repriced, Cancelled}
use Rattle.book.specs.declared.Entry.{Entry}
use Rattle.book.specs.Change.{hit_both}
use Rattle.soundness_theory.specs.SoundMarket.{SoundFor}
use Rattle.telling.proofs.Staying.{Numbered, TradeNames, TradeNamed, trade-stays, requeue-stays, run-stays, named-left, named-right}
use Rattle.settling_theory.specs.Settle.{eased, stirred, settled}
use Rattle.settling_theory.proofs.Shapes.{EaseStep, eased-at, ease-step, StirStep, traded-at, moved_at, stir-step}
use Rattle.settling_theory.proofs.StirRule.{trade-apart}
use Rattle.settling_theory.proofs.Settles.{settles}
use Rattle.settling_theory.proofs.SettleTells.{settled_says}

ease-stays : {k : Market} {l t : List Entry} {r : Report} (n : ℕ) → EaseStep k l r t → Numbered l n → Numbered t n ⊎ TradeNames n r
ease-stays {l = l} n (eased-at {i = i} {e = e} c) h = inl (requeue-stays i l e _ n c.there refl h)

stir-stays : {k : Market} {l t : List Entry} {r : Report} (n : ℕ) → StirStep k l r t → Numbered l n → Numbered t n ⊎ TradeNames n r
stir-stays {k = k} {l = l} n (traded-at {i = i} {j = j} {e = e} {y = y} c m b) h = go (eqb e.number n) refl (eqb y.number n) refl
  where
    go : (p : Bool) → eqb e.number n ≡ p → (p' : Bool) → eqb y.number n ≡ p'
        → Numbered (hit_both i j (min e.quantity y.quantity) l) n ⊎ ((e.number ≡ n) ⊎ (y.number ≡ n))
    go true q p' q' = inr (inl (eqb-true e.number n q))
    go false q true q' = inr (inr (eqb-true y.number n q'))
    go false q false q' =
        inl (trade-stays i j (min e.quantity y.quantity) l e y n c.there b.chosen.there (trade-apart k c b)
        (eqb-false e.number n q) (eqb-false y.number n q') h)
stir-stays {l = l} n (moved_at {i = i} {e = e} c m) h = inl (requeue-stays i l e _ n c.there refl h)

-- AN ENTRY LEAVES IN SETTLING ONLY BY A TRADE THAT NAMES IT
pub settled-stays : {k : Market} {l : List Entry} → SoundFor k l → (n : ℕ) → Numbered l n
    → Numbered (settled k l).final n ⊎ TradeNamed (settled k l).records n
unfolding settled
settled-stays {k} {l} s n h = on (run-stays (λ u. u) n (λ u r t e x. ease-stays n (ease-step k u e) x) (settles s).easing-run h)
  where
    rs : List Report
    rs = (eased k l).records

    ss : List Report
    ss = (stirred k (eased k l).final).records

    last : Numbered (stirred k (eased k l).final).final n ⊎ TradeNamed ss n → Numbered (stirred k (eased k l).final).final n ⊎ TradeNamed (rs ++ ss) n
    last (inl x) = inl x
    last (inr x) = inr (named-right rs ss x)

    on : Numbered (eased k l).final n ⊎ TradeNamed rs n → Numbered (stirred k (eased k l).final).final n ⊎ TradeNamed (rs ++ ss) n
    on (inl x) = last (run-stays (λ u. u) n (λ u r t e y. stir-stays n (stir-step k u e) y) (settles s).stirring-run x)
    on (inr x) = inr (named-left rs ss x)

-- ---- what its reports are ----

-- a report is of a trade or a move
abbrev pub TradesOrMoves : Report → Type 0
TradesOrMoves Noted = ⊥
TradesOrMoves (Rejected why s party number limit quantity) = ⊥
TradesOrMoves (Traded s party number other price quantity) = Unit {0}
TradesOrMoves (Rested s party number display working quantity) = ⊥
TradesOrMoves (Repriced s party number display working quantity) = Unit {0}
TradesOrMoves (Cancelled why s party number limit quantity) = ⊥

pub settled-moves : {k : Market} {l : List Entry} → SoundFor k l → All TradesOrMoves (settled k l).records
settled-moves s = settled_says TradesOrMoves (λ x. tt) (λ x y q. tt) s
