-- ONCE IT RESTS, ONLY A MOVE OF THE AWAY PRICE MAKES AN MMRP MARKETABLE. It works at its working aim or more aggressively, and that aim does not go by the
-- book; in a sound book all that it faces works beyond that. So before away prices that stay, settling eases nothing and makes no trade.
-- Assumes nothing.
use Prim.Native.Nat.{ℕ, ◌≤◌, min}
use mathlib.Core.Path.{◌≡◌, refl, ap}
use mathlib.Core.Bool.{Bool, true, false}
use mathlib.Core.List.{List}
use native.Mathlib.Omega.{arith}
use Rattle.prices.specs.declared.Market.{Market}
use Rattle.prices.specs.Side.{away}
use Rattle.prices.specs.Aims.{aim_working}
use Rattle.kinds.specs.Kinds.{sliding, minds}
use Rattle.prices.proofs.FrameLaws.{seen, aggressive-seen}
use Rattle.prices.proofs.AimLaws.{aim-unminded}
use Rattle.prices.proofs.RestLaws.{moved-rests}
use Rattle.prices.proofs.QuoteLaws.{not-marketable, minding-rests}
use Rattle.lists.specs.Places.{At, without}
use Rattle.lists.specs.Tests.{All}
use Rattle.lists.specs.Run.{stop, go, still}
use Rattle.lists.proofs.Bools.{clash}
use Rattle.lists.proofs.TestLaws.{all_map, all-at, all_without, all_snoc}
use Rattle.lists.proofs.RunLaws.{ran-complete, run-stop, complete-tells, Reached, reached-keeps}
use Rattle.packing.specs.declared.report.Report.{Report}
use Rattle.book.specs.declared.Entry.{Entry}
use Rattle.book.specs.Entries.{display, lessened, priced}
use Rattle.book.specs.Look.{contra}
use Rattle.soundness_theory.proofs.Facts.{Sound}
use Rattle.soundness_theory.proofs.FrontLaws.{if-any-contra}
use Rattle.soundness_theory.proofs.TradeLaws.{all_both}
use Rattle.soundness_theory.proofs.KeepLaws.{here-facts, here-short}
use Rattle.soundness_theory.proofs.MarketFacts.{MarketFacts}
use Rattle.telling.proofs.Staying.{NoTrade}
use Rattle.settling_theory.specs.Settle.{aims_in, stirring, next_ease, easings, next_stir, stirrings, eased, stirred, settled}
use Rattle.settling_theory.proofs.Shapes.{rest_prices, marketable_in, StirStep, traded-at, moved_at, stir-step, nobody-eases}
use Rattle.settling_theory.proofs.EaseRule.{EntryEased, uneased-is-eased, eased-uneased}
use Rattle.settling_theory.proofs.StirRule.{Easy, stirs, stir-moves, stir-falls}
use Rattle.settling_theory.proofs.Quiet.{unstirred-uneased}
use Rattle.settling_theory.proofs.AtPeace.{unstirred-peace}

-- an entry that is not to be eased and, if it slides and does not mind C (MMRP), works at its working aim or more aggressively: the aim is then the same
-- before any C
pub record Calm (k : Market) (x : Entry) : Type 0 where
  pub eased : EntryEased k x
  pub works : sliding x.kind ≡ true → minds x.kind ≡ false
      → seen x.sell (aim_working k.m x.kind x.sell x.limit (away k x.sell) 0) ≤ seen x.sell x.working

-- fewer contracts change nothing of it
pub calm-lessened : {k : Market} (q : ℕ) (x : Entry) → Calm k x → Calm k (lessened q x)
calm-lessened q x c = record { eased = record { eased = c.eased.eased }; works = c.works }

module _ {k : Market} {top : ℕ} (mk : MarketFacts k) where
  -- who has nothing to do is calm
  pub unstirred-calm : {l : List Entry} → Sound k.m top l → (i : ℕ) (x : Entry) → At l i x → stirring k l x ≡ false → Calm k x
  unstirred-calm {l} so i x at h = record {
    eased = uneased-is-eased k mk x (here-facts so i x at) (unstirred-uneased mk so i x at h);
    works = λ able mi.
        omega (
          arith,
          aggressive-seen x.sell x.working (aims_in k l x).working (unstirred-peace mk so i x at able h).rests.works,
          ap (seen x.sell) (aim-unminded k.m x.kind x.sell x.limit (away k x.sell) (contra x.sell l) 0 mi),
        );
  }

  -- IN A SOUND BOOK NO CALM ENTRY IS MARKETABLE
  pub calm-unmarketable : {l : List Entry} → Sound k.m top l → (i : ℕ) (x : Entry) → At l i x → Calm k x → sliding x.kind ≡ true
      → marketable_in k l x ≡ false
  calm-unmarketable {l} so i x at c able = by (minds x.kind) refl
    where
      by : (b : Bool) → minds x.kind ≡ b → marketable_in k l x ≡ false
      by true mi = minding-rests x.kind x.sell (contra x.sell l) (aims_in k l x) mi
      by false mi =
          not-marketable x.kind x.sell mk.step (if-any-contra x.sell so) x.working (aims_in k l x)
          (omega (
            arith,
            c.works able mi,
            ap (seen x.sell) (aim-unminded k.m x.kind x.sell x.limit (away k x.sell) (contra x.sell l) 0 mi),
          ))
          (here-short so i x at)

-- sound and calm entries
record CalmBook (k : Market) (top : ℕ) (l : List Entry) : Type 0 where
  pub sound : Sound k.m top l
  pub calm : All (Calm k) l

module _ {k : Market} {top : ℕ} (mk : MarketFacts k) where
  easy : {l : List Entry} → CalmBook k top l → Easy k top l
  easy {l} b = record { sound = b.sound; eased = all_map (λ x c. c.eased) l b.calm }

  -- a step keeps them calm, since a move is to the working aim or beyond,
  calm-kept : {l t : List Entry} {r : Report} → CalmBook k top l → StirStep k l r t → All (Calm k) t
  calm-kept {l} b (traded-at {i = i} {j = j} {e = e} {y = y} c m d) =
      all_both (Calm k) i j (min e.quantity y.quantity) l (λ x h z. calm-lessened (min e.quantity y.quantity) x z) b.calm
  calm-kept {l} b (moved_at {i = i} {e = e} c m) =
      all_snoc (Calm k) (without i l) (priced (rest_prices k l e) e) (all_without (Calm k) i l b.calm) (record {
        eased = record { eased = (stir-moves k mk (easy b) c m).eased };
        works = λ able mi.
            omega (
              arith,
              (moved-rests e.sell (display e) (aims_in k l e)).working,
              ap (seen e.sell) (aim-unminded k.m e.kind e.sell e.limit (away k e.sell) (contra e.sell l) 0 mi),
            );
      })

  kept : (l : List Entry) (r : Report) (t : List Entry) → CalmBook k top l → next_stir k l ≡ go r t → CalmBook k top t
  kept l r t b h = record { sound = ((stir-falls k mk).kept l r t (easy b) h).sound; calm = calm-kept b (stir-step k l h) }

  -- and is no trade
  no-trade : {l t : List Entry} {r : Report} → CalmBook k top l → StirStep k l r t → NoTrade r
  no-trade {l} b (traded-at {i = i} {e = e} c m d) =
      clash m (calm-unmarketable mk b.sound i e c.there (all-at (Calm k) l i e b.calm c.there) (stirs k mk (easy b) c).able)
  no-trade b (moved_at c m) = refl

-- what settling does with the entries l before the market k: it eases nothing and makes no trade, and at no step is anybody marketable
pub record TakesNothing (k : Market) (l : List Entry) : Type 0 where
  pub uneased : eased k l ≡ still l
  pub no-trade : All NoTrade (settled k l).records
  pub unmarketable : (u : List Entry) → Reached (next_stir k) l u → (i : ℕ) (x : Entry) → At u i x → sliding x.kind ≡ true
      → marketable_in k u x ≡ false

-- SETTLING CALM ENTRIES TAKES NOTHING
pub calm-settles : {k : Market} {top : ℕ} {l : List Entry} → MarketFacts k → Sound k.m top l → All (Calm k) l → TakesNothing k l
unfolding settled eased stirred still
calm-settles {k} {top} {l} mk so calm = record {
  uneased = run-stop (next_ease k) (easings k) l still-eased;
  no-trade =
      rw (run-stop (next_ease k) (easings k) l still-eased)
      (complete-tells (CalmBook k top) NoTrade (kept mk) (λ s r t b h. no-trade mk b (stir-step k s h)) start
      (ran-complete (next_stir k) (stirrings k) (Easy k top) (stir-falls k mk) l (easy mk start)));
  unmarketable = λ u to i x at able.
      let b : CalmBook k top u = reached-keeps (CalmBook k top) (kept mk) start to in
      calm-unmarketable mk b.sound i x at (all-at (Calm k) u i x b.calm at) able;
}
  where
    start : CalmBook k top l
    start = record { sound = so; calm = calm }

    still-eased : next_ease k l ≡ stop
    still-eased =
        nobody-eases k l (record { nobody = λ i x at. eased-uneased k mk x (here-facts so i x at) (all-at (Calm k) l i x calm at).eased })
