-- Laws of easing: a quote that easing leaves alone is eased; one that it changes keeps sound prices, works less aggressively, and is then left alone.
-- Assumes nothing.
use Prim.Native.Nat.{ℕ, ◌≤◌, ◌<◌, max}
use mathlib.Core.Path.{◌≡◌, refl, sym, ap, ◌∙◌}
use mathlib.Core.Bool.{Bool, true, false, cond, not, ◌&&◌}
use native.Mathlib.Omega.{arith}
use borrow.Author.Tests.{eqb-true, eqb-false, eq-eqb, ltb-true, ltb-false, not-true, not-false}
use lib.Dec.{eqb, ltb}
use Rattle.prices.specs.Side.{keen, reaches}
use Rattle.prices.specs.Ease.{beyond, eased_to, eases}
use Rattle.prices.proofs.FrameLaws.{seen, seen-inj, seen-high, seen-keen, keen-either, reaches-true, reaches-false}
use Rattle.prices.proofs.StepLaws.{Mpv, Legal, LegalIfAny, present}
use Rattle.prices.proofs.AimLaws.{unbound, faced, back-mono}
use Rattle.prices.proofs.RestLaws.{Slides, Eased}
use Rattle.lists.proofs.Bools.{clash, and_left, and_right}

left_alone : (s : Bool) (a d w : ℕ) → beyond s a w ≡ false → eases s a d w ≡ false
unfolding eases eased_to
left_alone s a d w q = rw (q, eq-eqb w w refl)

module _ {m l a d w : ℕ} (s : Bool) (v : Mpv m) (ga : LegalIfAny m a) (sl : Slides m s l d w) where
  within : beyond s a w ≡ false → seen s w ≤ faced s a
  unfolding faced
  within e = go (eqb a 0) (reaches s a w) refl e
    where
      go : (t u : Bool) → reaches s a w ≡ u → (not t && not u) ≡ false → seen s w ≤ cond t unbound (seen s a)
      go true u f h = omega (arith, seen-high s w (omega (arith, sl.works.high)))
      go false u f h = reaches-true s a w (f ∙ not-false u h)

  -- what is to be eased drops to the more aggressive of its display and the away price
  pub record Drops : Type 0 where
    pub away : Legal m a
    pub past : seen s a < seen s w
    pub to : eased_to s a d w ≡ keen s d a

  drops : beyond s a w ≡ true → Drops
  unfolding eased_to
  drops e = record {
    away = la;
    past =
        reaches-false s a w (omega (arith, la.high)) (omega (arith, sl.works.high))
        (not-true (reaches s a w) (and_right (not (eqb a 0)) (not (reaches s a w)) e));
    to = rw e;
  }
    where
      la : Legal m a
      la = ga.legal (not-true (eqb a 0) (and_left (not (eqb a 0)) (not (reaches s a w)) e))

  -- a quote that easing leaves alone is eased
  pub uneased-eased : eases s a d w ≡ false → Eased s a d w
  unfolding eases faced
  uneased-eased e = record { eased = go (beyond s a w) refl (eqb-true w (eased_to s a d w) (not-false (eqb w (eased_to s a d w)) e)) }
    where
      dropped : Drops → w ≡ eased_to s a d w → seen s w ≤ max (seen s d) (cond (eqb a 0) unbound (seen s a))
      dropped k h = rw (present v k.away) (omega (arith, ap (seen s) (h ∙ k.to), seen-keen s d a))

      go : (t : Bool) → beyond s a w ≡ t → w ≡ eased_to s a d w → seen s w ≤ max (seen s d) (cond (eqb a 0) unbound (seen s a))
      go false q h = omega (arith, within q)
      go true q h = dropped (drops q) h

-- what easing makes of a quote that it changes
pub record Dropped (m : ℕ) (s : Bool) (l a d w w' : ℕ) : Type 0 where
  pub slides : Slides m s l d w'
  pub less : seen s w' < seen s w
  pub uneased : eases s a d w' ≡ false

module _ {m l a d w : ℕ} (s : Bool) (v : Mpv m) (ga : LegalIfAny m a) (sl : Slides m s l d w) where
  -- easing again changes nothing
  once : (k : Drops s v ga sl) → eases s a d (keen s d a) ≡ false
  unfolding eases eased_to
  once k = go (beyond s a (keen s d a))
    where
      go : (t : Bool) → not (eqb (keen s d a) (cond t (keen s d a) (keen s d a))) ≡ false
      go true = rw (eq-eqb (keen s d a) (keen s d a) refl)
      go false = rw (eq-eqb (keen s d a) (keen s d a) refl)

  changed : (k : Drops s v ga sl) → eases s a d w ≡ true → Dropped m s l a d w (keen s d a)
  unfolding eases
  changed k e = record {
    slides = record {
      limit = sl.limit;
      shown = sl.shown;
      works = works;
      front = omega (arith, seen-keen s d a);
      step = omega (arith, back-mono s v works sl.works le, sl.step);
      inside = omega (arith, le, sl.inside);
    };
    less = less;
    uneased = once k;
  }
    where
      works : Legal m (keen s d a)
      works = keen-either (Legal m) s d a sl.shown (λ h. k.away)

      le : seen s (keen s d a) ≤ seen s w
      le = omega (arith, seen-keen s d a, k.past, sl.front)

      other : seen s (keen s d a) ≡ seen s w → ⊥
      other h = eqb-false w (eased_to s a d w) (not-true (eqb w (eased_to s a d w)) e)
          (seen-inj s w (keen s d a) (omega (arith, sl.works.high)) (omega (arith, works.high)) (sym h) ∙ sym k.to)

      less : seen s (keen s d a) < seen s w
      less = go (ltb (seen s (keen s d a)) (seen s w)) refl
        where
          go : (t : Bool) → ltb (seen s (keen s d a)) (seen s w) ≡ t → seen s (keen s d a) < seen s w
          go true q = ltb-true _ _ q
          go false q = absurd (other (omega (arith, le, ltb-false (seen s (keen s d a)) (seen s w) q)))

  -- WHAT EASING DOES
  pub eased : eases s a d w ≡ true → Dropped m s l a d w (eased_to s a d w)
  eased e = go (beyond s a w) refl
    where
      go : (t : Bool) → beyond s a w ≡ t → Dropped m s l a d w (eased_to s a d w)
      go true q = let k : Drops s v ga sl = drops s v ga sl q in rw k.to (changed k e)
      go false q = clash e (left_alone s a d w q)
