-- A QUOTE WITH NOTHING TO DO, IN PLAIN INEQUALITIES, both ways: what the tests of settling say of a quote's display and working price, against its aims and its
-- away price.
-- Assumes nothing.
use Prim.Native.Nat.{ℕ, ◌≤◌, ◌<◌, max}
use mathlib.Core.Path.{◌≡◌, refl, sym, ap, ◌∙◌}
use mathlib.Core.Bool.{Bool, true, false, cond, ◌&&◌}
use mathlib.Core.Logic.{◌⊎◌, inl, inr, ⊎_elim}
use native.Mathlib.Omega.{arith}
use borrow.Author.Tests.{eqb-true, eqb-false, ne_eqb, not-false}
use lib.Dec.{eqb}
use Rattle.lists.proofs.Bools.{and_left, and_right, or-false-right}
use Rattle.prices.specs.declared.Prices.{Prices}
use Rattle.prices.specs.Side.{keen, Aggressive}
use Rattle.prices.specs.Aims.{minded, aims}
use Rattle.prices.specs.Rest.{marketable, resting_prices, at_rest, stirs_at}
use Rattle.prices.proofs.FrameLaws.{seen, seen-high, keen-either, aggressive-seen, seen-aggressive}
use Rattle.prices.proofs.StepLaws.{Mpv, LegalIfAny}
use Rattle.prices.proofs.AimLaws.{unbound, faced, Aimed, aims-away}
use Rattle.prices.proofs.RestLaws.{Slides, AtRest}
use Rattle.prices.proofs.QuoteLaws.{aim-aimed, unstirred-rests, rests-unstirred}

-- of a quote with display d, working price w, aims p and away price a
pub record RestsAt (s : Bool) (a d w : ℕ) (p : Prices) : Type 0 where
  -- it is shown at its aim for display, or more aggressively,
  pub shown : Aggressive s d p.display
  -- works at its working aim, or more aggressively, and no less so than it is shown,
  pub works : Aggressive s w p.working
  pub front : Aggressive s w d
  -- yet no further: at the one or the other
  pub at_one : (w ≡ d) ⊎ (w ≡ p.working)
  -- "each sliding buy working above A drops to the higher of its display and A": it works beyond the away price only where it is shown
  pub away : 1 ≤ a → (w ≡ d) ⊎ Aggressive s a w

-- nothing to do is at its resting prices
pub unstirred-prices : (m kind : ℕ) (s : Bool) (l a c d w : ℕ) → stirs_at m kind s l a c d w ≡ false
    → (d ≡ (resting_prices s d (aims m kind s l a c)).display) × (w ≡ (resting_prices s d (aims m kind s l a c)).working)
unfolding stirs_at at_rest
unstirred-prices m kind s l a c d w h =
    (eqb-true d q.display (and_left (eqb d q.display) _ rest), eqb-true w q.working (and_right (eqb d q.display) _ rest))
  where
    p : Prices
    p = aims m kind s l a c

    q : Prices
    q = resting_prices s d (aims m kind s l a c)

    rest : (eqb d (resting_prices s d (aims m kind s l a c)).display && eqb w (resting_prices s d (aims m kind s l a c)).working) ≡ true
    rest = not-false _ (or-false-right (marketable kind s c p) _ h)

-- the more aggressive of two is one of them
one_of_two : (s : Bool) (p q : ℕ) → (keen s p q ≡ p) ⊎ (keen s p q ≡ q)
one_of_two s p q = keen-either (λ (x : ℕ). (x ≡ p) ⊎ (x ≡ q)) s p q (inl refl) (λ _. inr refl)

module _ {m l a c d w : ℕ} (kind : ℕ) (s : Bool) (v : Mpv m) (ga : LegalIfAny m a) (gc : LegalIfAny m c) (sl : Slides m s l d w) where
  -- at its resting prices it is so,
  pub rests-at : stirs_at m kind s l a c d w ≡ false → RestsAt s a d w (aims m kind s l a c)
  unfolding resting_prices faced
  rests-at h = record {
    shown = seen-aggressive s d p.display (omega (arith, sl.shown.high)) (omega (arith, ai.near-display.high)) r.display;
    works = seen-aggressive s w p.working (omega (arith, sl.works.high)) (omega (arith, ai.near-working.high)) r.working;
    front = seen-aggressive s w d (omega (arith, sl.works.high)) (omega (arith, sl.shown.high)) sl.front;
    at_one = one;
    away = λ some. ⊎_elim inl (λ e. inr (within some e)) one;
  }
    where
      p : Prices
      p = aims m kind s l a c

      ai : Aimed m s l a (minded kind c) (aims m kind s l a c)
      ai = aim-aimed kind s v ga gc sl

      r : AtRest s d w (aims m kind s l a c)
      r = unstirred-rests kind s v ga gc sl h

      works_at : w ≡ keen s d (aims m kind s l a c).working
      works_at =
          let q = unstirred-prices m kind s l a c d w h in
          q.1 ∙ sym (ap (λ (x : ℕ). keen s x p.working) q.0)

      one : (w ≡ d) ⊎ (w ≡ (aims m kind s l a c).working)
      one = ⊎_elim (λ e. inl (works_at ∙ e)) (λ e. inr (works_at ∙ e)) (one_of_two s d p.working)

      within : 1 ≤ a → w ≡ (aims m kind s l a c).working → Aggressive s a w
      within some e =
          let known : eqb a 0 ≡ false = ne_eqb a 0 (λ z. omega (arith, some, z)) in
          let far : seen s p.working ≤ cond (eqb a 0) unbound (seen s a) = aims-away s v ga p ai in
          let near : seen s p.working ≤ seen s a = rw known at far in
          seen-aggressive s a w (omega (arith, (ga.legal known).high)) (omega (arith, sl.works.high)) (omega (arith, near, ap (seen s) e))

  -- and what is so, short of what it faces, has nothing to do
  pub at-rests : RestsAt s a d w (aims m kind s l a c) → seen s w < faced s c → stirs_at m kind s l a c d w ≡ false
  unfolding faced
  at-rests r short =
      rests-unstirred kind s v ga gc sl (record { eased = eased (eqb a 0) refl }) short
      (record { display = aggressive-seen s d p.display r.shown; working = aggressive-seen s w p.working r.works })
    where
      p : Prices
      p = aims m kind s l a c

      eased : (t : Bool) → eqb a 0 ≡ t → seen s w ≤ max (seen s d) (cond t unbound (seen s a))
      eased true q = omega (arith, seen-high s w (omega (arith, sl.works.high)))
      eased false q =
          ⊎_elim (λ e. omega (arith, ap (seen s) e)) (λ h. omega (arith, aggressive-seen s a w h)) (r.away (omega (arith, eqb-false a 0 q)))
