-- Laws of tests on every element and on every two, of lists that grow by one more at the end.
-- Assumes nothing.
use Prim.Native.Nat.{ℕ, ◌+◌, ◌≤◌, ◌<◌}
use mathlib.Core.Path.{◌≡◌, refl, sym, ◌∙◌}
use mathlib.Core.Bool.{Bool, true, false, not, ◌&&◌, ◌||◌, and-true, and_assoc}
use mathlib.Core.List.{List, [], ◌∷◌, ◌++◌, map}
use native.Mathlib.Omega.{arith}
use borrow.Author.Tests.{eqb-true, eqb-false, ltb-true, eq-eqb, ne_eqb}
use lib.Dec.{eqb, ltb}
use Rattle.lists.specs.Tests.{All, all, any, pairs}
use Rattle.lists.specs.Choose.{scan}
use Rattle.lists.proofs.Bools.{and_left, and_right, and_both, not-either}

-- what comes out true whenever another does comes out false whenever it does not
pub contrary : (a b : Bool) → (a ≡ true → b ≡ true) → b ≡ false → a ≡ false
contrary true b f e = sym (f refl) ∙ e
contrary false b f e = refl

-- two pairs of tests, sorted
shuffle : (a b c d : Bool) → ((a && b) && (c && d)) ≡ ((a && c) && (b && d))
shuffle true true c d = refl
shuffle true false true d = refl
shuffle true false false d = refl
shuffle false b c d = refl

module _ {A : Type 0} where
  pub all-snoc-is : (test : A → Bool) (l : List A) (x : A) → all test (l ++ (x ∷ [])) ≡ (all test l && test x)
  unfolding all
  all-snoc-is test [] x = and-true (test x)
  all-snoc-is test (y ∷ l) x = rw (all-snoc-is test l x) (sym (and_assoc (test y) (all test l) (test x)))

  pub any-snoc-is : (test : A → Bool) (l : List A) (x : A) → any test (l ++ (x ∷ [])) ≡ (any test l || test x)
  unfolding any
  any-snoc-is test [] x = or-none (test x)
    where
      or-none : (b : Bool) → (b || false) ≡ b
      or-none true = refl
      or-none false = refl
  any-snoc-is test (y ∷ l) x = rw (any-snoc-is test l x) (or_turn (test y) (any test l) (test x))
    where
      or_turn : (a b c : Bool) → (a || (b || c)) ≡ ((a || b) || c)
      or_turn true b c = refl
      or_turn false b c = refl

  -- one more at the end stands against each of those before it
  pub pairs-snoc-is : (test : A → A → Bool) (l : List A) (x : A) → pairs test (l ++ (x ∷ [])) ≡ (pairs test l && all (λ (y : A). test y x) l)
  unfolding pairs all
  pairs-snoc-is test [] x = refl
  pairs-snoc-is test (y ∷ l) x =
      rw (all-snoc-is (test y) l x, pairs-snoc-is test l x) (shuffle (all (test y) l) (test y x) (pairs test l) (all (λ (z : A). test z x) l))

  pub all-front : (test : A → Bool) (l r : List A) → all test (l ++ r) ≡ true → all test l ≡ true
  unfolding all
  all-front test [] r e = refl
  all-front test (x ∷ l) r e =
      and_both (test x) (all test l) (and_left (test x) (all test (l ++ r)) e) (all-front test l r (and_right (test x) (all test (l ++ r)) e))

  pub pairs-front : (test : A → A → Bool) (l r : List A) → pairs test (l ++ r) ≡ true → pairs test l ≡ true
  unfolding pairs
  pairs-front test [] r e = refl
  pairs-front test (x ∷ l) r e =
      and_both (all (test x) l) (pairs test l)
      (all-front (test x) l r (and_left (all (test x) (l ++ r)) (pairs test (l ++ r)) e))
      (pairs-front test l r (and_right (all (test x) (l ++ r)) (pairs test (l ++ r)) e))

  -- two tests at once
  pub all-and : (f g : A → Bool) (l : List A) → all (λ (x : A). f x && g x) l ≡ (all f l && all g l)
  unfolding all
  all-and f g [] = refl
  all-and f g (x ∷ l) = rw (all-and f g l) (shuffle (f x) (g x) (all f l) (all g l))

  pub pairs-and : (f g : A → A → Bool) (l : List A) → pairs (λ (x y : A). f x y && g x y) l ≡ (pairs f l && pairs g l)
  unfolding pairs
  pairs-and f g [] = refl
  pairs-and f g (x ∷ l) = rw (all-and (f x) (g x) l, pairs-and f g l) (shuffle (all (f x) l) (all (g x) l) (pairs f l) (pairs g l))

  -- tests that agree on each element that is so
  pub all_same : (P : A → Type 0) (f g : A → Bool) → ((x : A) → P x → f x ≡ g x) → (l : List A) → All P l → all f l ≡ all g l
  unfolding all
  all_same P f g same [] a = refl
  all_same P f g same (x ∷ l) a = rw (same x a.0, all_same P f g same l a.1)

  -- a reading that minds no places, with one more at the end
  pub scan-snoc : {S : Type 0} (turn : S → A → S) (s : S) (i : ℕ) (l : List A) (x : A)
      → scan (λ (t : S) (_ : ℕ) (y : A). turn t y) s i (l ++ (x ∷ [])) ≡ turn (scan (λ (t : S) (_ : ℕ) (y : A). turn t y) s i l) x
  unfolding scan
  scan-snoc turn s i [] x = refl
  scan-snoc turn s i (y ∷ l) x = scan-snoc turn (turn s y) (i + 1) l x

  pub map_snoc : {B : Type 0} (f : A → B) (l : List A) (x : A) → map f (l ++ (x ∷ [])) ≡ map f l ++ (f x ∷ [])
  map_snoc f [] x = refl
  map_snoc f (y ∷ l) x = rw (map_snoc f l x)

-- ---- ALL DIFFERENT, by a running maximum and a look-up ----

eqb-turn : (p q : ℕ) → eqb p q ≡ eqb q p
eqb-turn p q = go (eqb q p) refl
  where
    go : (b : Bool) → eqb q p ≡ b → eqb p q ≡ b
    go true e = eq-eqb p q (sym (eqb-true q p e))
    go false e = ne_eqb p q (λ h. eqb-false q p e (sym h))

module _ {A : Type 0} (key : A → ℕ) where
  -- x has another key than all of them just if its key is not listed
  pub new-by-list : (l : List A) (x : A) → all (λ (y : A). not (eqb (key y) (key x))) l ≡ not (any (eqb (key x)) (map key l))
  unfolding all any
  new-by-list [] x = refl
  new-by-list (y ∷ l) x = rw (new-by-list l x, eqb-turn (key y) (key x)) (not-either (eqb (key x) (key y)) (any (eqb (key x)) (map key l)))

  -- and so it has if its key is above theirs
  pub new-by-top : (top : ℕ) (l : List A) (x : A) → All (λ (y : A). key y ≤ top) l → top < key x → all (λ (y : A). not (eqb (key y) (key x))) l ≡ true
  unfolding all
  new-by-top top [] x a h = refl
  new-by-top top (y ∷ l) x a h = rw (ne_eqb (key y) (key x) (λ e. omega (arith, a.0)), new-by-top top l x a.1 h)

  pub new-decided : (top : ℕ) (l : List A) (x : A) → All (λ (y : A). key y ≤ top) l
      → all (λ (y : A). not (eqb (key y) (key x))) l ≡ (ltb top (key x) || not (any (eqb (key x)) (map key l)))
  new-decided top l x a = go (ltb top (key x)) refl
    where
      go : (b : Bool) → ltb top (key x) ≡ b → all (λ (y : A). not (eqb (key y) (key x))) l ≡ (b || not (any (eqb (key x)) (map key l)))
      go true e = new-by-top top l x a (ltb-true top (key x) e)
      go false e = new-by-list l x
