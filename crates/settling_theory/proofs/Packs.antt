-- Every report of settling packs: the numbers of sound entries fit their fields.
-- Assumes nothing.
use Prim.Native.Nat.{ℕ, ◌≤◌, min}
use mathlib.Core.List.{List}
use native.Mathlib.Omega.{arith}
use lib.ListN.{length}
use Rattle.prices.specs.declared.Prices.{Prices}
use Rattle.prices.specs.declared.Market.{Market}
use Rattle.lists.specs.Places.{without}
use Rattle.lists.proofs.PlaceLaws.{at_last}
use Rattle.packing.specs.declared.report.Report.{Report}
use Rattle.packing.proofs.ReportLaws.{traded-packs, repriced-packs}
use Rattle.book.specs.declared.Entry.{Entry}
use Rattle.book.specs.Entries.{priced, last_number}
use Rattle.soundness_theory.proofs.Facts.{EntryFacts, Sound}
use Rattle.soundness_theory.proofs.KeepLaws.{here-facts}
use Rattle.telling.specs.Tell.{traded, repriced}
use Rattle.telling.proofs.PackLaws.{Packs}
use Rattle.settling_theory.specs.Settle.{eased_prices}
use Rattle.settling_theory.proofs.Shapes.{rest_prices, EaseStep, eased-at, StirStep, traded-at, moved_at}

module _ {m top : ℕ} (few : top ≤ last_number) where
  pub repriced-fits : (e : Entry) (p : Prices) → EntryFacts m top (priced p e) → Packs (repriced (priced p e))
  repriced-fits e p f =
      repriced-packs e.sell e.party e.number e.quantity (omega (arith, f.party_high)) (omega (arith, f.given)) (omega (arith, f.most))
      p.display p.working (omega (arith, f.prices.slides.shown.high)) (omega (arith, f.works.high))

  pub traded-fits : (e y : Entry) → EntryFacts m top e → EntryFacts m top y → Packs (traded e y (min e.quantity y.quantity))
  traded-fits e y f g =
      traded-packs e.sell e.party e.number (min e.quantity y.quantity) (omega (arith, f.party_high)) (omega (arith, f.given))
      (omega (arith, f.most)) y.number y.working (omega (arith, g.given)) (omega (arith, g.works.high))

  pub ease-packs : {k : Market} {l t : List Entry} {r : Report} → Sound m top t → EaseStep k l r t → Packs r
  ease-packs {k} {l} so (eased-at {i = i} {e = e} c) =
      repriced-fits e (eased_prices k e)
      (here-facts so (length (without i l)) (priced (eased_prices k e) e) (at_last (without i l) (priced (eased_prices k e) e)))

  pub stir-packs : {k : Market} {l t : List Entry} {r : Report} → Sound m top l → Sound m top t → StirStep k l r t → Packs r
  stir-packs so so' (traded-at {i = i} {j = j} {e = e} {y = y} c h b) = traded-fits e y (here-facts so i e c.there) (here-facts so j y b.chosen.there)
  stir-packs {k} {l} so so' (moved_at {i = i} {e = e} c h) =
      repriced-fits e (rest_prices k l e)
      (here-facts so' (length (without i l)) (priced (rest_prices k l e) e) (at_last (without i l) (priced (rest_prices k l e) e)))
