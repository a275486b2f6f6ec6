-- Trades and moves: each step keeps the entries sound and eased and lowers the potential, the count of entries that stir and a triangle of all entries. A move
-- brings its entry to rest and what others face no further off, so that nobody at rest stirs again; a trade leaves an entry less.
-- Assumes nothing.
use Prim.Native.Nat.{ℕ, zero, suc, ◌+◌, ◌*◌, ◌≤◌, ◌<◌, min}
use mathlib.Core.Path.{◌≡◌, refl, sym, subst, ap}
use mathlib.Core.Bool.{Bool, true, false}
use mathlib.Core.List.{List}
use native.Mathlib.Omega.{arith}
use lib.ListN.{length}
use Rattle.prices.specs.declared.Market.{Market}
use Rattle.prices.specs.Side.{away}
use Rattle.kinds.specs.Kinds.{sliding}
use Rattle.prices.proofs.FrameLaws.{seen-high, facing-sym, mirror-le}
use Rattle.prices.proofs.AimLaws.{faced}
use Rattle.prices.proofs.RestLaws.{Slides, Eased}
use Rattle.prices.proofs.QuoteLaws.{unstirred-stays, Moved, moves}
use Rattle.lists.specs.Places.{At, without, requeue}
use Rattle.lists.specs.Tests.{All}
use Rattle.lists.proofs.Bools.{clash, and_left}
use Rattle.lists.proofs.PlaceLaws.{at_same}
use Rattle.lists.proofs.TestLaws.{all-at, all_of, all_without, all_snoc, count-le, count-mono, count-without, count-snoc}
use Rattle.lists.proofs.RunLaws.{Falls}
use Rattle.packing.specs.declared.report.Report.{Report}
use Rattle.book.specs.declared.Entry.{Entry}
use Rattle.book.specs.declared.Pricing.{Pricing}
use Rattle.book.specs.declared.Pricing.TheVariants.{Fixed, Dark, Sliding}
use Rattle.book.specs.Entries.{shown_as, display, against, priced}
use Rattle.book.specs.Change.{hit_both}
use Rattle.book.specs.Look.{contra}
use Rattle.book.proofs.LookLaws.{BestContra, First}
use Rattle.soundness_theory.proofs.Facts.{PricedAs, Sound}
use Rattle.soundness_theory.proofs.FrontLaws.{front-is, if-any-contra, front-requeue}
use Rattle.soundness_theory.proofs.TradeLaws.{all_both, trade-shorter}
use Rattle.soundness_theory.proofs.KeepLaws.{here-facts, here-short, never-facing, sound-both, sound-repriced}
use Rattle.settling_theory.specs.Settle.{stirring_as, stirring, next_stir, triangle, stirrings}
use Rattle.settling_theory.proofs.Shapes.{rest_prices, marketable_in, StirStep, traded-at, moved_at, stir-step}
use Rattle.soundness_theory.proofs.MarketFacts.{MarketFacts}
use Rattle.settling_theory.proofs.EaseRule.{EasedAs, EntryEased, length-requeue}

-- sound entries of which none is to be eased
pub record Easy (k : Market) (top : ℕ) (l : List Entry) : Type 0 where
  pub sound : Sound k.m top l
  pub eased : All (EntryEased k) l

-- ---- the potential ----

pub triangle-twice : (n : ℕ) → 2 * triangle n ≡ n * (n + 1)
triangle-twice zero = refl
triangle-twice (suc n) = omega (arith, triangle-twice n)

pub triangle-mono : (m n : ℕ) → m ≤ n → triangle m ≤ triangle n
triangle-mono zero n h = omega arith
triangle-mono (suc m) zero h = absurd (omega arith)
triangle-mono (suc m) (suc n) h = omega (arith, triangle-mono m n (omega arith))

-- fewer entries, all of them stirring perhaps, are still less to do
triangle-falls : (m n : ℕ) → m < n → m + triangle m < triangle n
triangle-falls m n h = omega (arith, triangle-mono (suc m) n h)

-- ---- a trade ----

-- the two parties stand on two sides, so at two places
pub trade-apart : (k : Market) {l : List Entry} {i j : ℕ} {e y : Entry} → First (stirring k l) l i e → BestContra e.sell false l j y → i ≡ j → ⊥
trade-apart k {l = l} {j = j} {e = e} {y = y} c b h =
    let same : e ≡ y = at_same l j e y (subst (λ (n : ℕ). At l n e) h c.there) b.chosen.there in
    never-facing e.sell (subst (λ (z : Entry). against e.sell z ≡ true) (sym same) (and_left (against e.sell y) true b.chosen.passes))

trade-less : (k : Market) {l : List Entry} {i j : ℕ} {e y : Entry} → First (stirring k l) l i e → BestContra e.sell false l j y
    → length (hit_both i j (min e.quantity y.quantity) l) < length l
trade-less k {l = l} {i = i} {j = j} {e = e} {y = y} c b = trade-shorter i j l e y c.there b.chosen.there (trade-apart k c b)

-- ---- a quote that stirs ----

pub record Stirs (k : Market) (e : Entry) (d : ℕ) : Type 0 where
  pub able : sliding e.kind ≡ true
  pub slides : Slides k.m e.sell e.limit d e.working
  pub eased : Eased e.sell (away k e.sell) d e.working

module _ (k : Market) where
  stirring-as : (c : ℕ) (e : Entry) (p : Pricing) → PricedAs k.m e.kind e.sell e.limit e.working p
      → EasedAs k e.sell e.working p → stirring_as k c e p ≡ true → Stirs k e (shown_as e.limit p)
  stirring-as c e Fixed f z t = clash t refl
  stirring-as c e Dark f z t = clash t refl
  stirring-as c e (Sliding d) f z t = record { able = f.able; slides = f.slides; eased = z }

module _ (k : Market) (mk : MarketFacts k) {top : ℕ} where
  pub stirs : {l : List Entry} {i : ℕ} {e : Entry} → Easy k top l → First (stirring k l) l i e → Stirs k e (display e)
  stirs {l = l} {i = i} {e = e} ea c =
      stirring-as k (contra e.sell l) e e.pricing (here-facts ea.sound i e c.there).prices
      (all-at (EntryEased k) l i e ea.eased c.there).eased c.passes

  -- its move
  pub stir-moves : {l : List Entry} {i : ℕ} {e : Entry} → Easy k top l → First (stirring k l) l i e → marketable_in k l e ≡ false
      → Moved k.m e.kind e.sell e.limit (away k e.sell) (contra e.sell l) e.working (rest_prices k l e)
  stir-moves {i = i} {e = e} ea c h =
      let q : Stirs k e (display e) = stirs ea c in
      moves e.kind e.sell mk.step (mk.legal e.sell) (if-any-contra e.sell ea.sound) q.slides q.eased
      (here-short ea.sound i e c.there) h

  -- where every side faces what it faced or something nearer, who did not stir does not stir
  unstirred : (l l' : List Entry) → Easy k top l → Easy k top l' → ((s : Bool) → faced s (contra s l') ≤ faced s (contra s l))
      → All (λ (e : Entry). stirring k l e ≡ false → stirring k l' e ≡ false) l'
  unstirred l l' a b nearer = all_of (λ (e : Entry). stirring k l e ≡ false → stirring k l' e ≡ false) l' one
    where
      one : (i : ℕ) (e : Entry) → At l' i e → stirring k l e ≡ false → stirring k l' e ≡ false
      one i e at h = by e.pricing (here-facts b.sound i e at).prices (all-at (EntryEased k) l' i e b.eased at).eased h
        where
          by : (p : Pricing) → PricedAs k.m e.kind e.sell e.limit e.working p → EasedAs k e.sell e.working p
              → stirring_as k (contra e.sell l) e p ≡ false → stirring_as k (contra e.sell l') e p ≡ false
          by Fixed f z t = refl
          by Dark f z t = refl
          by (Sliding d) f z t =
              unstirred-stays e.kind e.sell mk.step (mk.legal e.sell) (if-any-contra e.sell a.sound) (if-any-contra e.sell b.sound)
              f.slides z (nearer e.sell) (here-short b.sound i e at) t

  -- ---- a step ----

  stir-kept : {l t : List Entry} {r : Report} → Easy k top l → StirStep k l r t → Easy k top t
  stir-kept {l = l} ea (traded-at {i = i} {j = j} {e = e} {y = y} c m b) = record {
    sound = sound-both ea.sound i j (min e.quantity y.quantity);
    eased = all_both (EntryEased k) i j (min e.quantity y.quantity) l (λ x h z. record { eased = z.eased }) ea.eased;
  }
  stir-kept {l = l} ea (moved_at {i = i} {e = e} c m) =
      let mv = stir-moves ea c m in
      record {
        sound = sound-repriced ea.sound i e c.there (rest_prices k l e) (record { able = (stirs ea c).able; slides = mv.slides }) mv.short;
        eased = all_snoc (EntryEased k) (without i l) (priced (rest_prices k l e) e) (all_without (EntryEased k) i l ea.eased) (record { eased = mv.eased });
      }

  -- a move brings what others face no further off
  move-nearer : {l : List Entry} {i : ℕ} {e : Entry} → Easy k top l → First (stirring k l) l i e → marketable_in k l e ≡ false
      → Easy k top (requeue i (priced (rest_prices k l e) e) l)
      → (s : Bool) → faced s (contra s (requeue i (priced (rest_prices k l e) e) l)) ≤ faced s (contra s l)
  move-nearer {l = l} {i = i} {e = e} ea c m easy s =
      let mv = stir-moves ea c m in
      rw (front-is s easy.sound, front-is s ea.sound)
      (front-requeue s i l e (priced (rest_prices k l e) e) c.there refl
      (omega (arith, seen-high s (rest_prices k l e).working (omega (arith, mv.slides.works.high))))
      (λ f. mirror-le e.sell s e.working (rest_prices k l e).working (omega (arith, (here-facts ea.sound i e c.there).works.high))
      (omega (arith, mv.slides.works.high)) (facing-sym s e.sell f) mv.on))

  stir-less : {l t : List Entry} {r : Report} → Easy k top l → StirStep k l r t → stirrings k t < stirrings k l
  unfolding stirrings
  stir-less {l = l} ea (traded-at {i = i} {j = j} {e = e} {y = y} c m b) =
      let l' : List Entry = hit_both i j (min e.quantity y.quantity) l in
      omega (arith, count-le (stirring k l') l', triangle-falls (length l') (length l) (trade-less k c b))
  stir-less {l = l} ea (moved_at {i = i} {e = e} c m) =
      let e' : Entry = priced (rest_prices k l e) e in
      let l' : List Entry = requeue i (priced (rest_prices k l e) e) l in
      let easy : Easy k top (requeue i (priced (rest_prices k l e) e) l) = stir-kept ea (moved_at c m) in
      omega (
        arith,
        ap triangle (length-requeue i l e e' c.there),
        count-mono (stirring k l') (stirring k l) l' (unstirred l l' ea easy (move-nearer ea c m easy)),
        count-snoc (stirring k l) (without i l) e' (stir-moves ea c m).unstirred,
        count-without (stirring k l) i l e c.there c.passes,
      )

  -- TRADES AND MOVES END
  pub stir-falls : Falls (next_stir k) (stirrings k) (Easy k top)
  stir-falls = record { kept = λ l r t ea h. stir-kept ea (stir-step k l h); less = λ l r t ea h. stir-less ea (stir-step k l h) }

-- no entry comes
pub stir-length : {k : Market} {l t : List Entry} {r : Report} → StirStep k l r t → length t ≤ length l
stir-length {k} {l} (traded-at c m b) = omega (arith, trade-less k c b)
stir-length {k} {l} (moved_at {i = i} {e = e} c m) = omega (arith, length-requeue i l e (priced (rest_prices k l e) e) c.there)
