-- Easing: each step keeps the entries sound and leaves one entry less to ease, so that the rule ends; and then every entry is eased.
-- Assumes nothing.
use Prim.Native.Nat.{ℕ, ◌<◌}
use mathlib.Core.Path.{◌≡◌, refl, sym, ap, ◌∙◌}
use mathlib.Core.Bool.{Bool, true, false, cond, not}
use mathlib.Core.List.{List}
use native.Mathlib.Omega.{arith}
use lib.Dec.{eqb}
use lib.ListN.{length}
use borrow.Author.Tests.{eq-eqb, not-true}
use Rattle.prices.specs.declared.Market.{Market}
use Rattle.prices.specs.Side.{away, keen, reaches}
use Rattle.kinds.specs.Kinds.{sliding}
use Rattle.prices.specs.Ease.{beyond, eased_to, eases}
use Rattle.prices.proofs.FrameLaws.{seen, seen-inj, seen-keen, reaches-false, keen-either}
use Rattle.prices.proofs.StepLaws.{Mpv, Legal, LegalIfAny, present}
use Rattle.prices.proofs.AimLaws.{unbound, faced}
use Rattle.prices.proofs.RestLaws.{Slides, Eased}
use Rattle.prices.proofs.EaseLaws.{Dropped, eased, uneased-eased}
use Rattle.lists.specs.Places.{At, without, requeue}
use Rattle.lists.specs.Tests.{All}
use Rattle.lists.proofs.Bools.{clash, and_left, and_right}
use Rattle.lists.proofs.PlaceLaws.{at-inside, length-snoc, length_without}
use Rattle.lists.proofs.TestLaws.{all-zip, all_of, count-without, count-snoc}
use Rattle.lists.proofs.ChooseLaws.{Nobody}
use Rattle.lists.proofs.RunLaws.{Falls}
use Rattle.packing.specs.declared.report.Report.{Report}
use Rattle.book.specs.declared.Entry.{Entry}
use Rattle.book.specs.declared.Pricing.{Pricing}
use Rattle.book.specs.declared.Pricing.TheVariants.{Fixed, Dark, Sliding}
use Rattle.book.specs.Entries.{shown_as, display, priced}
use Rattle.soundness_theory.proofs.Facts.{PricedAs, EntryFacts, Sound}
use Rattle.soundness_theory.proofs.KeepLaws.{here-facts, here-short, sound-repriced}
use Rattle.soundness_theory.proofs.MarketFacts.{MarketFacts}
use Rattle.settling_theory.specs.Settle.{eases_as, easing, eased_prices, next_ease, easings}
use Rattle.book.proofs.LookLaws.{First}
use Rattle.settling_theory.proofs.Shapes.{EaseStep, eased-at, ease-step}

pub length-requeue : (i : ℕ) (l : List Entry) (e e' : Entry) → At l i e → length (requeue i e' l) ≡ length l
length-requeue i l e e' h = length-snoc (without i l) e' ∙ sym (length_without i l (at-inside l i e h))

-- ---- a step of easing ----

-- what easing makes of an entry that it changes
pub record Drops (k : Market) (e : Entry) (d : ℕ) : Type 0 where
  pub able : sliding e.kind ≡ true
  pub drop : Dropped k.m e.sell e.limit (away k e.sell) d e.working (eased_to e.sell (away k e.sell) d e.working)

module _ (k : Market) (mk : MarketFacts k) where
  drops-as : (e : Entry) (p : Pricing) → PricedAs k.m e.kind e.sell e.limit e.working p → eases_as k e p ≡ true
      → Drops k e (shown_as e.limit p)
  drops-as e Fixed f t = clash t refl
  drops-as e Dark f t = clash t refl
  drops-as e (Sliding d) f t = record { able = f.able; drop = eased e.sell mk.step (mk.legal e.sell) f.slides t }

module _ (k : Market) (mk : MarketFacts k) {top : ℕ} where
  pub ease-drops : {l : List Entry} {i : ℕ} {e : Entry} → Sound k.m top l → First (easing k) l i e → Drops k e (display e)
  ease-drops {i = i} {e = e} so c = drops-as k mk e e.pricing (here-facts so i e c.there).prices c.passes

  ease-kept : {l t : List Entry} {r : Report} → Sound k.m top l → EaseStep k l r t → Sound k.m top t
  ease-kept so (eased-at {i = i} {e = e} c) =
      let g : Drops k e (display e) = ease-drops so c in
      sound-repriced so i e c.there (eased_prices k e) (record { able = g.able; slides = g.drop.slides })
      (omega (arith, g.drop.less, here-short so i e c.there))

  ease-less : {l t : List Entry} {r : Report} → Sound k.m top l → EaseStep k l r t → easings k t < easings k l
  unfolding easings
  ease-less {l = l} so (eased-at {i = i} {e = e} c) =
      omega (
        arith,
        count-snoc (easing k) (without i l) (priced (eased_prices k e) e) (ease-drops so c).drop.uneased,
        count-without (easing k) i l e c.there c.passes,
      )

  -- EASING ENDS
  pub ease-falls : Falls (next_ease k) (easings k) (Sound k.m top)
  ease-falls = record { kept = λ l r t so h. ease-kept so (ease-step k l h); less = λ l r t so h. ease-less so (ease-step k l h) }

-- no entry goes
pub ease-length : {k : Market} {l t : List Entry} {r : Report} → EaseStep k l r t → length t ≡ length l
ease-length {k} {l} (eased-at {i = i} {e = e} c) = length-requeue i l e (priced (eased_prices k e) e) c.there

-- ---- eased entries: those that easing leaves alone ----

abbrev pub EasedAs : Market → Bool → ℕ → Pricing → Type 0
EasedAs k s w Fixed = Unit {0}
EasedAs k s w Dark = Unit {0}
EasedAs k s w (Sliding d) = Eased s (away k s) d w

pub record EntryEased (k : Market) (e : Entry) : Type 0 where
  pub eased : EasedAs k e.sell e.working e.pricing

module _ {m l a d w : ℕ} (s : Bool) (v : Mpv m) (ga : LegalIfAny m a) (sl : Slides m s l d w) (ez : Eased s a d w) where
  -- one that works beyond the away price is shown where it works
  stays : beyond s a w ≡ true → w ≡ keen s d a
  unfolding faced
  stays q =
      seen-inj s w (keen s d a) (omega (arith, sl.works.high)) (omega (arith, (keen-either (Legal m) s d a sl.shown (λ _. la)).high))
      (omega (arith, seen-keen s d a, past, sl.front, ez.eased, ap (λ (t : Bool). cond t unbound (seen s a)) (present v la)))
    where
      la : Legal m a
      la = ga.legal (not-true (eqb a 0) (and_left (not (eqb a 0)) (not (reaches s a w)) q))

      past : seen s a < seen s w
      past =
          reaches-false s a w (omega (arith, la.high)) (omega (arith, sl.works.high))
          (not-true (reaches s a w) (and_right (not (eqb a 0)) (not (reaches s a w)) q))

  pub eased-is-uneased : eases s a d w ≡ false
  unfolding eases eased_to
  eased-is-uneased = go (beyond s a w) refl
    where
      go : (t : Bool) → beyond s a w ≡ t → not (eqb w (cond t (keen s d a) w)) ≡ false
      go true q = rw (eq-eqb w (keen s d a) (stays q))
      go false q = rw (eq-eqb w w refl)

module _ (k : Market) (mk : MarketFacts k) {top : ℕ} (e : Entry) (f : EntryFacts k.m top e) where
  -- left alone is eased, and the other way round
  pub uneased-is-eased : easing k e ≡ false → EntryEased k e
  uneased-is-eased h = record { eased = by e.pricing f.prices h }
    where
      by : (p : Pricing) → PricedAs k.m e.kind e.sell e.limit e.working p → eases_as k e p ≡ false → EasedAs k e.sell e.working p
      by Fixed g t = tt
      by Dark g t = tt
      by (Sliding d) g t = uneased-eased e.sell mk.step (mk.legal e.sell) g.slides t

  pub eased-uneased : EntryEased k e → easing k e ≡ false
  eased-uneased z = by e.pricing f.prices z.eased
    where
      by : (p : Pricing) → PricedAs k.m e.kind e.sell e.limit e.working p → EasedAs k e.sell e.working p → eases_as k e p ≡ false
      by Fixed g t = refl
      by Dark g t = refl
      by (Sliding d) g t = eased-is-uneased e.sell mk.step (mk.legal e.sell) g.slides t

pub all-eased : {k : Market} {top : ℕ} {l : List Entry} → MarketFacts k → Sound k.m top l → Nobody (easing k) l → All (EntryEased k) l
all-eased {k} {top} {l} mk so n =
    all-zip (λ e f h. uneased-is-eased k mk e f h) l so.entries (all_of (λ (e : Entry). easing k e ≡ false) l (λ i e h. n.nobody i e h))
