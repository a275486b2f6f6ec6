-- Laws of tests on lists: how facts and counts go over taking out, appending and changing one element.
-- Assumes nothing.
use Prim.Native.Nat.{ℕ, zero, suc, ◌+◌, ◌≤◌}
use mathlib.Core.Path.{◌≡◌, refl, subst, ap, ◌∙◌}
use mathlib.Core.Bool.{Bool, true, false, ◌||◌}
use mathlib.Core.List.{List, [], ◌∷◌, ◌++◌}
use native.Mathlib.Omega.{arith}
use lib.ListN.{length}
use Rattle.lists.specs.Places.{At, without}
use Rattle.lists.specs.Tests.{All, all, any, pairs, one, count}
use Rattle.lists.proofs.Bools.{clash, and_left, and_right, and_both, or-false-left, or-false-right}

module _ {A : Type 0} where
  -- ---- facts of every element ----

  pub all_map : {P Q : A → Type 0} → ((x : A) → P x → Q x) → (l : List A) → All P l → All Q l
  all_map f [] a = tt
  all_map f (x ∷ l) a = (f x a.0, all_map f l a.1)

  pub all-zip : {P Q R : A → Type 0} → ((x : A) → P x → Q x → R x) → (l : List A) → All P l → All Q l → All R l
  all-zip f [] a b = tt
  all-zip f (x ∷ l) a b = (f x a.0 b.0, all-zip f l a.1 b.1)

  pub all-at : (P : A → Type 0) (l : List A) (i : ℕ) (x : A) → All P l → At l i x → P x
  all-at P [] i x a h = absurd h
  all-at P (y ∷ l) zero x a h = subst P h a.0
  all-at P (y ∷ l) (suc i) x a h = all-at P l i x a.1 h

  pub all_of : (P : A → Type 0) (l : List A) → ((i : ℕ) (x : A) → At l i x → P x) → All P l
  all_of P [] f = tt
  all_of P (y ∷ l) f = (f 0 y refl, all_of P l (λ i x h. f (suc i) x h))

  pub all_without : (P : A → Type 0) (i : ℕ) (l : List A) → All P l → All P (without i l)
  unfolding without
  all_without P i [] a = tt
  all_without P zero (x ∷ l) a = a.1
  all_without P (suc i) (x ∷ l) a = (a.0, all_without P i l a.1)

  pub all_append : (P : A → Type 0) (l r : List A) → All P l → All P r → All P (l ++ r)
  all_append P [] r a b = b
  all_append P (x ∷ l) r a b = (a.0, all_append P l r a.1 b)

  pub all_snoc : (P : A → Type 0) (l : List A) (x : A) → All P l → P x → All P (l ++ (x ∷ []))
  all_snoc P l x a h = all_append P l (x ∷ []) a (h, tt)

  -- ---- the answers are the facts ----

  pub all_true : (test : A → Bool) (l : List A) → all test l ≡ true → All (λ (x : A). test x ≡ true) l
  unfolding all
  all_true test [] e = tt
  all_true test (x ∷ l) e = (and_left (test x) (all test l) e, all_true test l (and_right (test x) (all test l) e))

  pub true-all : (test : A → Bool) (l : List A) → All (λ (x : A). test x ≡ true) l → all test l ≡ true
  unfolding all
  true-all test [] a = refl
  true-all test (x ∷ l) a = and_both (test x) (all test l) a.0 (true-all test l a.1)

  pub any_false : (test : A → Bool) (l : List A) → any test l ≡ false → All (λ (x : A). test x ≡ false) l
  unfolding any
  any_false test [] e = tt
  any_false test (x ∷ l) e = (or-false-left (test x) (any test l) e, any_false test l (or-false-right (test x) (any test l) e))

  pub false-any : (test : A → Bool) (l : List A) → All (λ (x : A). test x ≡ false) l → any test l ≡ false
  unfolding any
  false-any test [] a = refl
  false-any test (x ∷ l) a = rw a.0 (false-any test l a.1)

  -- some element passes, exactly if one at a place does
  pub record Somewhere (test : A → Bool) (l : List A) : Type 0 where
    pub place : ℕ
    pub element : A
    pub there : At l place element
    pub passes : test element ≡ true

  pub any-true : (test : A → Bool) (l : List A) → any test l ≡ true → Somewhere test l
  unfolding any
  any-true test [] e = clash e refl
  any-true test (x ∷ l) e = by (test x) refl e (λ h. any-true test l h)
    where
      by : (b : Bool) → test x ≡ b → (b || any test l) ≡ true → (any test l ≡ true → Somewhere test l) → Somewhere test (x ∷ l)
      by true q h more = record { place = 0; element = x; there = refl; passes = q }
      by false q h more = let s = more h in record { place = suc s.place; element = s.element; there = s.there; passes = s.passes }

  pub true-any : (test : A → Bool) (l : List A) → Somewhere test l → any test l ≡ true
  true-any test l s = by (any test l) refl
    where
      by : (b : Bool) → any test l ≡ b → b ≡ true
      by true q = refl
      by false q = clash s.passes (all-at (λ (x : A). test x ≡ false) l s.place s.element (any_false test l q) s.there)

  pub pairs-true : (test : A → A → Bool) (x : A) (l : List A) → pairs test (x ∷ l) ≡ true → (all (test x) l ≡ true) × (pairs test l ≡ true)
  unfolding pairs
  pairs-true test x l e = (and_left (all (test x) l) (pairs test l) e, and_right (all (test x) l) (pairs test l) e)

  -- ---- counts ----

  pub count-le : (p : A → Bool) (l : List A) → count p l ≤ length l
  count-le p [] = omega arith
  count-le p (x ∷ l) = more (p x) (count-le p l)
    where
      more : (b : Bool) → count p l ≤ length l → one b + count p l ≤ suc (length l)
      more true h = omega arith
      more false h = omega arith

  -- a test that fails wherever another does counts no more
  pub count-mono : (p q : A → Bool) (l : List A) → All (λ (x : A). q x ≡ false → p x ≡ false) l → count p l ≤ count q l
  count-mono p q [] a = omega arith
  count-mono p q (x ∷ l) a = more (p x) (q x) a.0 (count-mono p q l a.1)
    where
      more : (b c : Bool) → (c ≡ false → b ≡ false) → count p l ≤ count q l → one b + count p l ≤ one c + count q l
      more true true f h = omega arith
      more true false f h = clash refl (f refl)
      more false true f h = omega arith
      more false false f h = omega arith

  pub none-count : (p : A → Bool) (l : List A) → All (λ (x : A). p x ≡ false) l → count p l ≡ 0
  none-count p [] a = refl
  none-count p (x ∷ l) a = rw a.0 (omega (arith, none-count p l a.1))

  pub count-without : (p : A → Bool) (i : ℕ) (l : List A) (x : A) → At l i x → p x ≡ true → count p l ≡ suc (count p (without i l))
  unfolding without
  count-without p i [] x h t = absurd h
  count-without p zero (y ∷ l) x h t = let k : p y ≡ true = ap p h ∙ t in rw k (omega arith)
  count-without p (suc i) (y ∷ l) x h t = omega (arith, count-without p i l x h t)

  pub count-snoc : (p : A → Bool) (l : List A) (x : A) → p x ≡ false → count p (l ++ (x ∷ [])) ≡ count p l
  count-snoc p [] x t = rw t
  count-snoc p (y ∷ l) x t = rw (count-snoc p l x t)
