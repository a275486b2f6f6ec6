-- WHAT BEING SETTLED MEANS, IN PLAIN INEQUALITIES, both ways: in a sound book nothing stirs exactly if every entry of a sliding kind is at peace. Entries of
-- the other kinds never stir.
-- Assumes nothing.
use Prim.Native.Nat.{ℕ}
use mathlib.Core.Path.{◌≡◌, refl}
use mathlib.Core.Bool.{Bool, true, false}
use mathlib.Core.List.{List}
use native.Mathlib.Omega.{arith}
use Rattle.prices.specs.declared.Market.{Market}
use Rattle.prices.specs.Side.{away, Short}
use Rattle.kinds.specs.Kinds.{sliding, minds}
use Rattle.kinds.proofs.KindLaws.{dark-rigid}
use Rattle.prices.proofs.FrameLaws.{aggressive-seen, seen-short}
use Rattle.prices.proofs.RestingLaws.{RestsAt, rests-at, at-rests}
use Rattle.lists.specs.Places.{At}
use Rattle.lists.proofs.Bools.{clash}
use Rattle.lists.proofs.TestLaws.{all-at, all_of, any_false, false-any}
use Rattle.book.specs.declared.Entry.{Entry}
use Rattle.book.specs.declared.Pricing.{Pricing}
use Rattle.book.specs.declared.Pricing.TheVariants.{Fixed, Dark, Sliding}
use Rattle.book.specs.Entries.{shown_as, display, against}
use Rattle.book.specs.Look.{contra}
use Rattle.soundness_theory.proofs.Facts.{PricedAs, Clear, Sound}
use Rattle.soundness_theory.proofs.FrontLaws.{if-any-contra}
use Rattle.soundness_theory.proofs.KeepLaws.{here-facts, here-short, clear-all}
use Rattle.soundness_theory.proofs.MarketFacts.{MarketFacts}
use Rattle.settling_theory.specs.Settle.{eases_as, easing, aims_in, stirring_as, stirring, any_stirs}

-- AN ENTRY AT PEACE before the market k, in the book l
pub record AtPeace (k : Market) (l : List Entry) (x : Entry) : Type 0 where
  -- its display and working price, against its aims and its away price
  pub rests : RestsAt x.sell (away k x.sell) (display x) x.working (aims_in k l x)
  -- "It is marketable when its working aim is C or more": no contra price is within the working aim of a kind that does not mind C (MMRP)
  pub short : minds x.kind ≡ false → (j : ℕ) (y : Entry) → At l j y → against x.sell y ≡ true
      → Short x.sell (aims_in k l x).working y.working

-- every entry that slides is
abbrev pub AllAtPeace : Market → List Entry → Type 0
AllAtPeace k l = (i : ℕ) (x : Entry) → At l i x → sliding x.kind ≡ true → AtPeace k l x

module _ {k : Market} {top : ℕ} {l : List Entry} (mk : MarketFacts k) (so : Sound k.m top l) where
  module _ (i : ℕ) (x : Entry) (at : At l i x) where
    -- what does not slide has nothing to do, whatever the prices
    pub rigid-rests : sliding x.kind ≡ false → (stirring k l x ≡ false) × (easing k x ≡ false)
    rigid-rests q = by x.pricing (here-facts so i x at).prices
      where
        by : (p : Pricing) → PricedAs k.m x.kind x.sell x.limit x.working p
            → (stirring_as k (contra x.sell l) x p ≡ false) × (eases_as k x p ≡ false)
        by Fixed f = (refl, refl)
        by Dark f = (refl, refl)
        by (Sliding d) f = clash f.able q

    module _ (able : sliding x.kind ≡ true) where
      rests-as : (p : Pricing) → PricedAs k.m x.kind x.sell x.limit x.working p → stirring_as k (contra x.sell l) x p ≡ false
          → RestsAt x.sell (away k x.sell) (shown_as x.limit p) x.working (aims_in k l x)
      rests-as Fixed f h = clash able f.rigid
      rests-as Dark f h = clash able (dark-rigid x.kind f.dark)
      rests-as (Sliding d) f h = rests-at x.kind x.sell mk.step (mk.legal x.sell) (if-any-contra x.sell so) f.slides h

      -- WHO DOES NOT STIR IS AT PEACE,
      pub unstirred-peace : stirring k l x ≡ false → AtPeace k l x
      unstirred-peace h =
          let r = rests-as x.pricing (here-facts so i x at).prices h in
          record {
            rests = r;
            short = λ _ j y there f.
                seen-short x.sell (aims_in k l x).working y.working (omega (
                  arith,
                  aggressive-seen x.sell x.working (aims_in k l x).working r.works,
                  (all-at (Clear x) l j y (clear-all so i x at) there).clear f,
                ));
          }

    -- AND THE OTHER WAY ROUND
    pub peace-unstirred : AtPeace k l x → stirring k l x ≡ false
    peace-unstirred z = by x.pricing (here-facts so i x at).prices z.rests
      where
        by : (p : Pricing) → PricedAs k.m x.kind x.sell x.limit x.working p
            → RestsAt x.sell (away k x.sell) (shown_as x.limit p) x.working (aims_in k l x) → stirring_as k (contra x.sell l) x p ≡ false
        by Fixed f r = refl
        by Dark f r = refl
        by (Sliding d) f r =
            at-rests x.kind x.sell mk.step (mk.legal x.sell) (if-any-contra x.sell so) f.slides r (here-short so i x at)

  -- SETTLED IS JUST THIS
  pub settled-peace : any_stirs k l ≡ false → AllAtPeace k l
  unfolding any_stirs
  settled-peace h i x at able = unstirred-peace i x at able (all-at (λ (z : Entry). stirring k l z ≡ false) l i x (any_false (stirring k l) l h) at)

  pub peace-settled : AllAtPeace k l → any_stirs k l ≡ false
  unfolding any_stirs
  peace-settled z =
      false-any (stirring k l) l (all_of (λ (x : Entry). stirring k l x ≡ false) l (λ i x at. by i x at (sliding x.kind) refl))
    where
      by : (i : ℕ) (x : Entry) → At l i x → (b : Bool) → sliding x.kind ≡ b → stirring k l x ≡ false
      by i x at true q = peace-unstirred i x at (z i x at q)
      by i x at false q = (rigid-rests i x at q).0
