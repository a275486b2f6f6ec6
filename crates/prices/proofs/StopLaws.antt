-- WHAT MAY NOT REST, IN PLAIN INEQUALITIES, both ways: a rest is told 20, 21, 23 or 22 exactly when that test holds and none before it does. What 21 says is
-- the book's to say (crate arrival, HiddenLaws).
-- Assumes nothing.
use Prim.Native.Nat.{ℕ, ◌+◌, ◌-◌, ◌≤◌, ◌<◌}
use mathlib.Core.Path.{◌≡◌, refl}
use mathlib.Core.Bool.{Bool, true, false, not, ◌&&◌}
use mathlib.Core.List.{List, [], ◌∷◌}
use native.Mathlib.Omega.{arith}
use lib.Dec.{eqb, leb}
use borrow.Author.Tests.{leb-true, leb-false, ltb-true, eqb-false, le-leb, lt-leb, lt-ltb, ne_eqb, not-true}
use Rattle.lists.proofs.Bools.{clash, and_left, and_right}
use Rattle.lists.proofs.FirstLaws.{Decides, AllDecide, TellsFirst, tells_first}
use Rattle.kinds.specs.Kinds.{sliding, light}
use Rattle.prices.specs.Side.{Short, reaches}
use Rattle.prices.specs.Step.{top_price, steps_of, back, last_price, rung, apart}
use Rattle.prices.specs.Test.{holds, answers}
use Rattle.prices.specs.Post.{test20, test21, test22, test23, stops, stopped}
use Rattle.prices.proofs.GridLaws.{OnGrid}
use Rattle.prices.proofs.CountLaws.{after}
use Rattle.prices.proofs.StepLaws.{Mpv, Legal, counted-past}

-- ---- p is x or more (sell: x or less), side by side ----

abbrev pub ForBoth : Bool → ℕ → ℕ → Type 0
ForBoth s p x = (s ≡ false → x ≤ p) × (s ≡ true → p ≤ x)

pub decides-both : (s : Bool) (p x : ℕ) → Decides (reaches s p x) (ForBoth s p x)
unfolding reaches
decides-both false p x = (λ h. (λ _. leb-true x p h, λ q. clash q refl), λ f. le-leb x p (f.0 refl))
decides-both true p x = (λ h. (λ q. clash refl q, λ _. leb-true p x h), λ f. le-leb p x (f.1 refl))

-- there is a price
some-price : (p : ℕ) → not (eqb p 0) ≡ true → 1 ≤ p
some-price p h = omega (arith, eqb-false p 0 (not-true (eqb p 0) h))

-- ---- 20: "not MMALO or MMRP and L is A or more"; where there is no A there is no test ----

pub record AtAway (kind : ℕ) (s : Bool) (l a : ℕ) : Type 0 where
  pub rigid : sliding kind ≡ false
  pub known : 1 ≤ a
  pub buy : s ≡ false → a ≤ l
  pub sell : s ≡ true → l ≤ a

pub decides-20 : (kind : ℕ) (s : Bool) (l a : ℕ) → Decides (holds s (test20 kind l a)) (AtAway kind s l a)
decides-20 kind s l a = (told, tells)
  where
    told : holds s (test20 kind l a) ≡ true → AtAway kind s l a
    told h =
        let k = and_left (not (sliding kind) && not (eqb a 0)) _ h in
        let r = (decides-both s l a).0 (and_right (not (sliding kind) && not (eqb a 0)) _ h) in
        record {
          rigid = not-true (sliding kind) (and_left (not (sliding kind)) _ k);
          known = some-price a (and_right (not (sliding kind)) _ k);
          buy = r.0;
          sell = r.1;
        }

    tells : AtAway kind s l a → holds s (test20 kind l a) ≡ true
    tells f = rw (f.rigid, ne_eqb a 0 (λ z. omega (arith, f.known, z)), (decides-both s l a).1 (f.buy, f.sell))

-- ---- 21: "MMLO and an undisplayed sell works at L or less", h being the best price at which one works ----

pub record AtHidden (kind : ℕ) (s : Bool) (l h : ℕ) : Type 0 where
  pub passes_over : light kind ≡ true
  pub known : 1 ≤ h
  pub buy : s ≡ false → h ≤ l
  pub sell : s ≡ true → l ≤ h

pub decides-hidden : (kind : ℕ) (s : Bool) (l h : ℕ) → Decides (holds s (test21 kind l h)) (AtHidden kind s l h)
decides-hidden kind s l h = (told, tells)
  where
    told : holds s (test21 kind l h) ≡ true → AtHidden kind s l h
    told g =
        let k = and_left (light kind && not (eqb h 0)) _ g in
        let r = (decides-both s l h).0 (and_right (light kind && not (eqb h 0)) _ g) in
        record { passes_over = and_left (light kind) _ k; known = some-price h (and_right (light kind) _ k); buy = r.0; sell = r.1 }

    tells : AtHidden kind s l h → holds s (test21 kind l h) ≡ true
    tells f = rw (f.passes_over, ne_eqb h 0 (λ z. omega (arith, f.known, z)), (decides-both s l h).1 (f.buy, f.sell))

-- ---- 23: "a sliding kind's display would be below M (sell: above 100,000)" ----

pub record PastLast (m kind : ℕ) (s : Bool) (d : ℕ) : Type 0 where
  pub slides : sliding kind ≡ true
  pub buy : s ≡ false → d < m
  pub sell : s ≡ true → top_price < d

pub decides-23 : (m kind : ℕ) (s : Bool) (d : ℕ) → Decides (holds s (test23 m kind s d)) (PastLast m kind s d)
unfolding reaches last_price
decides-23 m kind false d = (
  λ h. record {
    slides = and_left (sliding kind) _ h;
    buy = λ _. leb-false m d (not-true (leb m d) (and_right (sliding kind) _ h));
    sell = λ q. clash q refl;
  },
  λ f. rw (f.slides, lt-leb m d (f.buy refl)),
)
decides-23 m kind true d = (
  λ h. record {
    slides = and_left (sliding kind) _ h;
    buy = λ q. clash refl q;
    sell = λ _. leb-false d top_price (not-true (leb d top_price) (and_right (sliding kind) _ h));
  },
  λ f. rw (f.slides, lt-leb d top_price (f.sell refl)),
)

-- ---- 22: "a sliding kind's L minus display (sell: display minus L) exceeds K times M", in steps: of those that lead from 0 up to either price ----

pub record FarShown (m k kind : ℕ) (s : Bool) (l d : ℕ) : Type 0 where
  pub slides : sliding kind ≡ true
  pub buy : s ≡ false → k + rung (steps_of m) d < rung (steps_of m) l
  pub sell : s ≡ true → k + rung (steps_of m) l < rung (steps_of m) d

pub decides-22 : (m k kind : ℕ) (s : Bool) (l d : ℕ) → Decides (holds s (test22 m k kind s l d)) (FarShown m k kind s l d)
unfolding apart
decides-22 m k kind false l d = (
  λ h. record {
    slides = and_left (sliding kind) _ h;
    buy = λ _. omega (arith, ltb-true k (rung (steps_of m) l - rung (steps_of m) d) (and_right (sliding kind) _ h));
    sell = λ q. clash q refl;
  },
  λ f. rw (f.slides, lt-ltb k (rung (steps_of m) l - rung (steps_of m) d) (omega (arith, f.buy refl))),
)
decides-22 m k kind true l d = (
  λ h. record {
    slides = and_left (sliding kind) _ h;
    buy = λ q. clash refl q;
    sell = λ _. omega (arith, ltb-true k (rung (steps_of m) d - rung (steps_of m) l) (and_right (sliding kind) _ h));
  },
  λ f. rw (f.slides, lt-ltb k (rung (steps_of m) d - rung (steps_of m) l) (omega (arith, f.sell refl))),
)

-- WHICH IS TO SAY, COUNTED ONE BY ONE: the display lies short of the price K steps back from the limit
pub far-counted : {m l d : ℕ} (k kind : ℕ) (s : Bool) → Mpv m → Legal m l → OnGrid (steps_of m) d
    → Decides (holds s (test22 m k kind s l d)) ((sliding kind ≡ true) × Short s d (after k (back m s) l))
far-counted {m} {l} {d} k kind s v a b = (
  λ h. (and_left (sliding kind) _ h, (counted-past s k v a b).0 (ltb-true k (apart m s l d) (and_right (sliding kind) _ h))),
  λ f. rw (f.0, lt-ltb k (apart m s l d) ((counted-past s k v a b).1 f.1)),
)

-- ---- the reason that is told ----

-- WHAT EACH REASON SAYS of what is left of an entry with limit l, away price a and the display d that it would rest at; what 21 says is handed in
pub data Stopped (m k kind : ℕ) (s : Bool) (l a : ℕ) (Says21 : Type 0) (d : ℕ) : ℕ → Type 0 where
  at-away : AtAway kind s l a → Stopped m k kind s l a Says21 d 20
  hidden-in-way : Says21 → Stopped m k kind s l a Says21 d 21
  past-last : PastLast m kind s d → Stopped m k kind s l a Says21 d 23
  far-shown : FarShown m k kind s l d → Stopped m k kind s l a Says21 d 22

-- "first that applies: 20, .. 21, .. 23, .. 22"
abbrev pub stop_order : List ℕ
stop_order = 20 ∷ 21 ∷ 23 ∷ 22 ∷ []

module _ {m k kind : ℕ} {s : Bool} {l a : ℕ} {Says21 : Type 0} {d : ℕ} where
  pub is-20 : Stopped m k kind s l a Says21 d 20 → AtAway kind s l a
  is-20 (at-away f) = f

  pub is-21 : Stopped m k kind s l a Says21 d 21 → Says21
  is-21 (hidden-in-way f) = f

  pub is-23 : Stopped m k kind s l a Says21 d 23 → PastLast m kind s d
  is-23 (past-last f) = f

  pub is-22 : Stopped m k kind s l a Says21 d 22 → FarShown m k kind s l d
  is-22 (far-shown f) = f

  -- its numbers are below those of Barred (ProtectLaws)
  pub stopped-low : {n : ℕ} → Stopped m k kind s l a Says21 d n → n ≤ 23
  stopped-low (at-away f) = omega arith
  stopped-low (hidden-in-way f) = omega arith
  stopped-low (past-last f) = omega arith
  stopped-low (far-shown f) = omega arith

-- the tests decide just this
module _ (m k kind : ℕ) (s : Bool) (l a h : ℕ) (Says21 : Type 0) (d : ℕ) (decides-21 : Decides (holds s (test21 kind l h)) Says21) where
  pub stops-decide : AllDecide (Stopped m k kind s l a Says21 d) (answers s (stops m k kind s l a h d))
  stops-decide = (
    (λ h. at-away ((decides-20 kind s l a).0 h), λ f. (decides-20 kind s l a).1 (is-20 f)),
    (
      (λ h. hidden-in-way (decides-21.0 h), λ f. decides-21.1 (is-21 f)),
      (
        (λ h. past-last ((decides-23 m kind s d).0 h), λ f. (decides-23 m kind s d).1 (is-23 f)),
        ((λ h. far-shown ((decides-22 m k kind s l d).0 h), λ f. (decides-22 m k kind s l d).1 (is-22 f)), tt),
      ),
    ),
  )

  -- THE REASON TOLD IS THE FIRST THAT HOLDS, and 0 where none does
  pub stopped-first : TellsFirst (Stopped m k kind s l a Says21 d) stop_order (stopped m k kind s l a h d)
  unfolding stopped
  stopped-first =
      tells_first (Stopped m k kind s l a Says21 d) (answers s (stops m k kind s l a h d)) stops-decide
      (omega arith, (omega arith, (omega arith, (omega arith, tt))))
