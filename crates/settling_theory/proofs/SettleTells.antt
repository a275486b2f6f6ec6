-- EVERY REPORT OF SETTLING is of a trade or of new prices.
-- Assumes nothing.
use Prim.Native.Nat.{ℕ, min}
use mathlib.Core.List.{List}
use Rattle.prices.specs.declared.Market.{Market}
use Rattle.lists.specs.Tests.{All}
use Rattle.lists.proofs.TestLaws.{all_append}
use Rattle.lists.proofs.RunLaws.{complete-tells}
use Rattle.packing.specs.declared.report.Report.{Report}
use Rattle.book.specs.declared.Entry.{Entry}
use Rattle.book.specs.Entries.{priced}
use Rattle.telling.specs.Tell.{traded, repriced}
use Rattle.soundness_theory.specs.SoundMarket.{SoundFor}
use Rattle.settling_theory.specs.Settle.{eased_prices, eased, stirred, settled}
use Rattle.settling_theory.proofs.Shapes.{rest_prices, EaseStep, eased-at, ease-step, StirStep, traded-at, moved_at, stir-step}
use Rattle.settling_theory.proofs.Settles.{settles}

module _ (P : Report → Type 0) (moves : (x : Entry) → P (repriced x)) (trades : (x y : Entry) (q : ℕ) → P (traded x y q)) where
  ease-says : {k : Market} {l t : List Entry} {r : Report} → EaseStep k l r t → P r
  ease-says {k} (eased-at {e = e} c) = moves (priced (eased_prices k e) e)

  stir-says : {k : Market} {l t : List Entry} {r : Report} → StirStep k l r t → P r
  stir-says (traded-at {e = e} {y = y} c m b) = trades e y (min e.quantity y.quantity)
  stir-says {k} {l} (moved_at {e = e} c m) = moves (priced (rest_prices k l e) e)

  pub settled_says : {k : Market} {l : List Entry} → SoundFor k l → All P (settled k l).records
  unfolding settled
  settled_says {k} {l} s =
      all_append P (eased k l).records (stirred k (eased k l).final).records
      (complete-tells (λ _. Unit {0}) P (λ s r t h e. tt) (λ s r t h e. ease-says (ease-step k s e)) tt (settles s).easing-run)
      (complete-tells (λ _. Unit {0}) P (λ s r t h e. tt) (λ s r t h e. stir-says (stir-step k s e)) tt (settles s).stirring-run)
