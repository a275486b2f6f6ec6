-- Where nobody stirs there is nothing to settle: a quote that is to be eased is not at its resting prices either, so that one test serves both rules.
-- Assumes nothing.
use Prim.Native.Nat.{ℕ}
use mathlib.Core.Path.{◌≡◌, refl, ap}
use mathlib.Core.Bool.{Bool, false}
use mathlib.Core.List.{List}
use native.Mathlib.Omega.{arith}
use Rattle.prices.specs.declared.Prices.{Prices}
use Rattle.prices.specs.declared.Market.{Market}
use Rattle.prices.specs.Aims.{aims}
use Rattle.prices.specs.Rest.{stirs_at}
use Rattle.prices.proofs.FrameLaws.{seen}
use Rattle.prices.proofs.StepLaws.{Mpv, LegalIfAny}
use Rattle.prices.proofs.AimLaws.{aims-away}
use Rattle.prices.proofs.RestLaws.{Slides, Eased, moved-display, moved-working}
use Rattle.prices.proofs.QuoteLaws.{aim-aimed}
use Rattle.prices.proofs.RestingLaws.{unstirred-prices}
use Rattle.lists.specs.Places.{At}
use Rattle.lists.specs.Run.{still}
use Rattle.lists.proofs.TestLaws.{all-at, any_false}
use Rattle.lists.proofs.ChooseLaws.{Nobody}
use Rattle.lists.proofs.RunLaws.{run-stop}
use Rattle.book.specs.declared.Entry.{Entry}
use Rattle.book.specs.declared.Pricing.{Pricing}
use Rattle.book.specs.declared.Pricing.TheVariants.{Fixed, Dark, Sliding}
use Rattle.book.specs.Look.{contra}
use Rattle.soundness_theory.proofs.Facts.{PricedAs, Sound}
use Rattle.soundness_theory.proofs.FrontLaws.{if-any-contra}
use Rattle.soundness_theory.proofs.KeepLaws.{here-facts}
use Rattle.settling_theory.specs.Settle.{eases_as, easing, stirring_as, stirring, next_ease, easings, next_stir, stirrings, eased, stirred, settled, any_stirs}
use Rattle.settling_theory.proofs.Shapes.{nobody-eases, nobody-stirs}
use Rattle.soundness_theory.proofs.MarketFacts.{MarketFacts}
use Rattle.settling_theory.proofs.EaseRule.{eased-is-uneased}

-- a quote at its resting prices is eased
rests-eased : {m l a c d w : ℕ} (kind : ℕ) (s : Bool) → Mpv m → LegalIfAny m a → LegalIfAny m c → Slides m s l d w → stirs_at m kind s l a c d w ≡ false
    → Eased s a d w
rests-eased {m} {l} {a} {c} {d} {w} kind s v ga gc sl h =
    let p : Prices = aims m kind s l a c in
    let same = unstirred-prices m kind s l a c d w h in
    record {
      eased =
          omega
          (arith, moved-display s d p, moved-working s d p, aims-away s v ga p (aim-aimed kind s v ga gc sl), ap (seen s) same.0, ap (seen s) same.1);
    }

module _ {k : Market} {top : ℕ} {l : List Entry} (mk : MarketFacts k) (so : Sound k.m top l) where
  -- WHO IS TO BE EASED STIRS
  pub unstirred-uneased : (i : ℕ) (e : Entry) → At l i e → stirring k l e ≡ false → easing k e ≡ false
  unstirred-uneased i e at h = by e.pricing (here-facts so i e at).prices h
    where
      by : (p : Pricing) → PricedAs k.m e.kind e.sell e.limit e.working p → stirring_as k (contra e.sell l) e p ≡ false → eases_as k e p ≡ false
      by Fixed f t = refl
      by Dark f t = refl
      by (Sliding d) f t =
          eased-is-uneased e.sell mk.step (mk.legal e.sell) f.slides
          (rests-eased e.kind e.sell mk.step (mk.legal e.sell) (if-any-contra e.sell so) f.slides t)

  pub nobody-eased : Nobody (stirring k l) l → Nobody (easing k) l
  nobody-eased n = record { nobody = λ i e h. unstirred-uneased i e h (n.nobody i e h) }

  -- so settling does nothing
  pub unstirred-settled : Nobody (stirring k l) l → settled k l ≡ still l
  unfolding settled eased stirred still
  unstirred-settled n =
      rw (run-stop (next_ease k) (easings k) l (nobody-eases k l (nobody-eased n)), run-stop (next_stir k) (stirrings k) l (nobody-stirs k l n)) refl

  -- NOTHING STIRS: no change and no report
  pub quiet : any_stirs k l ≡ false → settled k l ≡ still l
  unfolding any_stirs
  quiet h =
      unstirred-settled (record { nobody = λ i e at. all-at (λ (x : Entry). stirring k l x ≡ false) l i e (any_false (stirring k l) l h) at })
