-- WHAT POSTS IS SOUND WITH ALL THAT RESTS. What does not slide works at its limit: 20 did not stop it, so the limit was its bound and all within it that it
-- might take is taken, and 21 did not, so nothing undisplayed works there either. An MMRP works at its bound, and has taken all within it. An MMALO works one
-- step short of what it faces. 23 did not stop a display, so it is legal, and the aims are at most one step apart.
-- Assumes nothing.
use Prim.Native.Nat.{ℕ, ◌≤◌, ◌<◌, min}
use mathlib.Core.Path.{◌≡◌, refl, ◌∙◌}
use mathlib.Core.Bool.{Bool, true, false, cond, not, ◌&&◌}
use mathlib.Core.List.{List, [], ◌∷◌}
use native.Mathlib.Omega.{arith}
use lib.Dec.{eqb}
use borrow.Author.Tests.{eqb-false}
use Rattle.prices.specs.declared.Prices.{Prices}
use Rattle.prices.specs.declared.Market.{Market}
use Rattle.prices.specs.Side.{away, meek, reaches}
use Rattle.prices.specs.Step.{last_price, top_price}
use Rattle.kinds.specs.Kinds.{sliding, minds, dark, light}
use Rattle.kinds.proofs.KindLaws.{rigid-takes, sliding-heavy}
use Rattle.prices.specs.Aims.{minded, up_to, short_of, aim_working, aims}
use Rattle.prices.specs.Test.{holds}
use Rattle.prices.specs.Post.{test20, test21, test22, test23}
use Rattle.prices.proofs.FrameLaws.{seen, seen-high, seen-meek, meek-either, reaches-not}
use Rattle.prices.proofs.StepLaws.{Legal, LegalIfAny, within-last}
use Rattle.prices.proofs.AimLaws.{unbound, faced, Aimed, aimed}
use Rattle.prices.proofs.RestLaws.{Slides, arrives}
use Rattle.prices.proofs.QuoteLaws.{unmarketable, minding-rests}
use Rattle.lists.specs.Places.{At}
use Rattle.lists.specs.Tests.{All, first_holding}
use Rattle.lists.proofs.Bools.{cond-zero}
use Rattle.lists.proofs.TestLaws.{all_of}
use Rattle.packing.proofs.ReportLaws.{rested-packs}
use Rattle.book.specs.declared.Entry.{Entry}
use Rattle.book.specs.declared.Pricing.{Pricing}
use Rattle.book.specs.declared.Pricing.TheVariants.{Fixed, Dark, Sliding}
use Rattle.book.specs.Entries.{shown_as, display, displayed, against, last_number}
use Rattle.book.specs.Look.{eligible, contra, best_hidden}
use Rattle.soundness_theory.proofs.Facts.{PricedAs, EntryFacts, Clear, Sound}
use Rattle.soundness_theory.proofs.FrontLaws.{if-any-contra}
use Rattle.soundness_theory.proofs.KeepLaws.{short-clear}
use Rattle.telling.specs.Tell.{rested}
use Rattle.soundness_theory.proofs.MarketFacts.{MarketFacts}
use Rattle.telling.proofs.PackLaws.{Packs}
use Rattle.terms.specs.declared.Terms.{Terms}
use Rattle.terms.specs.Terms.{market_of}
use Rattle.arrival.specs.Take.{bound, shown_only}
use Rattle.arrival.specs.Post.{prices_of, pricing_of, as_posted, hidden_for, stop_for}
use Rattle.arrival.proofs.TakeLaws.{Cleared}
use Rattle.arrival.proofs.HiddenLaws.{hidden-beyond}

-- ---- the bound, in the frame ----

module _ (k : Market) (e : Entry) where
  pub bound-seen : e.limit ≤ 200000 → seen e.sell (bound k e) ≡ min (seen e.sell e.limit) (faced e.sell (away k e.sell))
  unfolding up_to faced
  bound-seen h = go (eqb (away k e.sell) 0)
    where
      go : (b : Bool) → seen e.sell (cond b e.limit (meek e.sell e.limit (away k e.sell)))
          ≡ min (seen e.sell e.limit) (cond b unbound (seen e.sell (away k e.sell)))
      go true = omega (arith, seen-high e.sell e.limit h)
      go false = seen-meek e.sell e.limit (away k e.sell)

  pub bound-high : {m : ℕ} → Legal m e.limit → LegalIfAny m (away k e.sell) → bound k e ≤ 200000
  unfolding up_to
  bound-high hl ga = go (eqb (away k e.sell) 0) refl
    where
      go : (b : Bool) → eqb (away k e.sell) 0 ≡ b → cond b e.limit (meek e.sell e.limit (away k e.sell)) ≤ 200000
      go true q = omega (arith, hl.high)
      go false q = meek-either (λ (p : ℕ). p ≤ 200000) e.sell e.limit (away k e.sell) (omega (arith, hl.high)) (omega (arith, (ga.legal q).high))

  -- a limit short of the away price is the bound
  bound-limit : e.limit ≤ 200000 → (not (eqb (away k e.sell) 0) && reaches e.sell e.limit (away k e.sell)) ≡ false
      → seen e.sell (bound k e) ≡ seen e.sell e.limit
  unfolding faced
  bound-limit h r = bound-seen h ∙ go (eqb (away k e.sell) 0) r
    where
      go : (b : Bool) → (not b && reaches e.sell e.limit (away k e.sell)) ≡ false
          → min (seen e.sell e.limit) (cond b unbound (seen e.sell (away k e.sell))) ≡ seen e.sell e.limit
      go true g = omega (arith, seen-high e.sell e.limit h)
      go false g = omega (arith, reaches-not e.sell e.limit (away k e.sell) g)

-- ---- nothing stops it ----

pub may-rest : (a b c d : Bool) → first_holding ((20, a) ∷ (21, b) ∷ (23, c) ∷ (22, d) ∷ []) ≡ 0 → (a ≡ false) × ((b ≡ false) × ((c ≡ false) × (d ≡ false)))
may-rest a b c d h =
    let x = cond-zero a 20 (cond b 21 (cond c 23 (cond d 22 0))) (omega arith) h in
    let y = cond-zero b 21 (cond c 23 (cond d 22 0)) (omega arith) x.1 in
    let z = cond-zero c 23 (cond d 22 0) (omega arith) y.1 in
    (x.0, (y.0, (z.0, (cond-zero d 22 0 (omega arith) z.1).0)))

-- ---- its prices ----

module _ (m kind : ℕ) (s : Bool) (limit w d : ℕ) where
  rigid-prices : sliding kind ≡ false → w ≡ limit → PricedAs m kind s limit w (pricing_of kind d)
  rigid-prices q at = rw q (go (dark kind) refl)
    where
      go : (b : Bool) → dark kind ≡ b → PricedAs m kind s limit w (cond b Dark Fixed)
      go true h = record { dark = h; at = at }
      go false h = record { rigid = q; shown = h; at = at }

  slider-prices : sliding kind ≡ true → Slides m s limit d w → PricedAs m kind s limit w (pricing_of kind d)
  slider-prices q sl = rw q (record { able = q; slides = sl })

-- prices at which an entry may rest in a book
pub record Fits (m left : ℕ) (e : Entry) (l : List Entry) (p : Prices) : Type 0 where
  pub works : Legal m p.working
  pub prices : PricedAs m e.kind e.sell e.limit p.working (pricing_of e.kind p.display)
  pub clear : All (Clear (as_posted e left p)) l

module _ (t : Terms) (e : Entry) (l : List Entry) (left top : ℕ) (mk : MarketFacts (market_of t)) (so : Sound t.m top l) (hl : Legal t.m e.limit)
    (taken : minds e.kind ≡ false → Cleared (bound (market_of t) e) e l) where
  high : e.limit ≤ 200000
  high = omega (arith, hl.high)

  aim : Prices
  aim = aims t.m e.kind e.sell e.limit (away (market_of t) e.sell) (contra e.sell l)

  aim-is : Aimed t.m e.sell e.limit (away (market_of t) e.sell) (minded e.kind (contra e.sell l)) aim
  unfolding aim
  aim-is = aimed e.kind e.sell mk.step hl (mk.legal e.sell) (if-any-contra e.sell so)

  -- at its limit, with nothing there: what is displayed there it has taken, unless 20 stopped it, and for what is not 21 would have
  at-limit : minds e.kind ≡ false → (not (eqb (away (market_of t) e.sell) 0) && reaches e.sell e.limit (away (market_of t) e.sell)) ≡ false
      → holds e.sell (test21 e.kind e.limit (hidden_for e l)) ≡ false → (i : ℕ) (y : Entry) → At l i y → against e.sell y ≡ true
      → seen e.sell e.limit < seen e.sell y.working
  at-limit mi b20 b21 i y at f = by (light e.kind) refl (displayed y) refl b21
    where
      far : eligible e.sell (shown_only e) y ≡ true → seen e.sell e.limit < seen e.sell y.working
      far g = omega (arith, bound-limit (market_of t) e high b20, (taken mi).beyond i y at g)

      by : (b : Bool) → light e.kind ≡ b → (v : Bool) → displayed y ≡ v
          → ((b && not (eqb (cond b (best_hidden e.sell l) 0) 0)) && reaches e.sell e.limit (cond b (best_hidden e.sell l) 0)) ≡ false
          → seen e.sell e.limit < seen e.sell y.working
      by false q v w g = far (rw (f, q) refl)
      by true q true w g = far (rw (f, q, w) refl)
      by true q false w g =
          hidden-beyond e.sell l so e.limit high g i y
          (record { there = at; faces = f; undisplayed = eqb-false (display y) y.working w })

  -- MMRP works at the bound, up to which it has taken all
  at_bound : minds e.kind ≡ false → sliding e.kind ≡ true → (i : ℕ) (y : Entry) → At l i y → against e.sell y ≡ true
      → seen e.sell aim.working < seen e.sell y.working
  unfolding aim aim_working minded short_of
  at_bound mi sl i y at f = rw mi ((taken mi).beyond i y at (rw (f, sliding-heavy e.kind sl) refl))

  -- MMALO works short of what it faces
  short : minds e.kind ≡ true → seen e.sell aim.working < faced e.sell (contra e.sell l)
  unfolding aim
  short mi =
      unmarketable e.kind e.sell mk.step (if-any-contra e.sell so) aim aim-is
      (minding-rests e.kind e.sell (contra e.sell l) aim mi)

  slider-clear : sliding e.kind ≡ true → (b : Bool) → minds e.kind ≡ b → All (Clear (as_posted e left aim)) l
  slider-clear sl true mi = short-clear so (as_posted e left aim) (short mi)
  slider-clear sl false mi = all_of (Clear (as_posted e left aim)) l (λ i y at. record { clear = λ f. at_bound mi sl i y at f })

  -- WHAT NOTHING STOPS MAY REST
  pub fits : stop_for t e l ≡ 0 → Fits t.m left e l (prices_of t e l)
  unfolding stop_for aim
  fits h =
      let r = may-rest (holds e.sell (test20 e.kind e.limit (away (market_of t) e.sell)))
      (holds e.sell (test21 e.kind e.limit (hidden_for e l))) (holds e.sell (test23 t.m e.kind e.sell (prices_of t e l).display))
      (holds e.sell (test22 t.m t.k e.kind e.sell e.limit (prices_of t e l).display)) h in
      by (sliding e.kind) refl r.0 r.1.0 r.1.1.0
    where
      by : (b : Bool) → sliding e.kind ≡ b
          → ((not b && not (eqb (away (market_of t) e.sell) 0)) && reaches e.sell e.limit (away (market_of t) e.sell)) ≡ false
          → holds e.sell (test21 e.kind e.limit (hidden_for e l)) ≡ false
          → (b && not (reaches e.sell (cond b aim (record { display = e.limit; working = e.limit })).display (last_price t.m e.sell))) ≡ false
          → Fits t.m left e l (cond b aim (record { display = e.limit; working = e.limit }))
      by false q b20 b21 b23 = record {
        works = hl;
        prices = rigid-prices t.m e.kind e.sell e.limit e.limit e.limit q refl;
        clear = all_of (Clear (as_posted e left (record { display = e.limit; working = e.limit }))) l
            (λ i y at. record { clear = λ f. at-limit (rigid-takes e.kind q) b20 b21 i y at f });
      }
      by true q b20 b21 b23 =
          let sl : Slides t.m e.sell e.limit aim.display aim.working =
          arrives e.sell mk.step hl (mk.legal e.sell) aim aim-is (within-last t.m aim.display e.sell b23) in
          record {
            works = sl.works;
            prices = slider-prices t.m e.kind e.sell e.limit aim.working aim.display q sl;
            clear = slider-clear q (minds e.kind) refl;
          }

-- ---- its report packs ----

shown-high : {m top : ℕ} (x : Entry) → EntryFacts m top x → display x ≤ top_price
shown-high {m} x f = go x.pricing f.prices
  where
    go : (p : Pricing) → PricedAs m x.kind x.sell x.limit x.working p → shown_as x.limit p ≤ top_price
    go Fixed g = f.limit.high
    go Dark g = omega arith
    go (Sliding d) g = g.slides.shown.high

pub rested-fits : {m top : ℕ} (x : Entry) → top ≤ last_number → EntryFacts m top x → Packs (rested x)
rested-fits x low f =
    rested-packs x.sell x.party x.number x.quantity (omega (arith, f.party_high)) (omega (arith, f.given)) (omega (arith, f.most))
    (display x) x.working (omega (arith, shown-high x f)) (omega (arith, f.works.high))
