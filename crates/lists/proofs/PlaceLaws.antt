-- Laws of places: what taking out, appending and changing one element do.
-- Assumes nothing.
use Prim.Native.Nat.{ℕ, zero, suc, ◌+◌, ◌-◌, ◌<◌}
use mathlib.Core.Path.{◌≡◌, refl, sym, ap, ◌∙◌}
use mathlib.Core.Logic.{◌⊎◌, inl, inr}
use mathlib.Core.List.{List, [], ◌∷◌, ◌++◌}
use native.Mathlib.Nat.{sub-zero, zero-sub, suc-sub-suc}
use native.Mathlib.Numerals.{add-one}
use native.Mathlib.Omega.{arith}
use lib.ListN.{length, take, drop, get_or, replicate}
use lib.Seq.{drop-drop}
use Rattle.lists.specs.Places.{At, without}

module _ {A : Type 0} where
  -- ---- what stands where ----

  pub at_same : (l : List A) (i : ℕ) (x y : A) → At l i x → At l i y → x ≡ y
  at_same [] i x y h k = absurd h
  at_same (z ∷ l) zero x y h k = sym h ∙ k
  at_same (z ∷ l) (suc i) x y h k = at_same l i x y h k

  pub at-inside : (l : List A) (i : ℕ) (x : A) → At l i x → i < length l
  at-inside [] i x h = absurd h
  at-inside (z ∷ l) zero x h = omega arith
  at-inside (z ∷ l) (suc i) x h = omega (arith, at-inside l i x h)

  pub at-get_d : (l : List A) (i : ℕ) (d : A) → i < length l → At l i (get_or l i d)
  at-get_d [] i d h = absurd (omega arith)
  at-get_d (z ∷ l) zero d h = refl
  at-get_d (z ∷ l) (suc i) d h = at-get_d l i d (omega arith)

  pub at_left : (l r : List A) (i : ℕ) (x : A) → At l i x → At (l ++ r) i x
  at_left [] r i x h = absurd h
  at_left (z ∷ l) r zero x h = h
  at_left (z ∷ l) r (suc i) x h = at_left l r i x h

  pub at_last : (l : List A) (x : A) → At (l ++ (x ∷ [])) (length l) x
  at_last [] x = refl
  at_last (z ∷ l) x = at_last l x

  -- in a list with one more at the end, an element is an old one or that one
  pub at_snoc : (l : List A) (x : A) (i : ℕ) (y : A) → At (l ++ (x ∷ [])) i y → At l i y ⊎ ((i ≡ length l) × (x ≡ y))
  at_snoc [] x zero y h = inr (refl, h)
  at_snoc [] x (suc i) y h = absurd h
  at_snoc (z ∷ l) x zero y h = inl h
  at_snoc (z ∷ l) x (suc i) y h = shift (at_snoc l x i y h)
    where
      shift : At l i y ⊎ ((i ≡ length l) × (x ≡ y)) → At l i y ⊎ ((suc i ≡ suc (length l)) × (x ≡ y))
      shift (inl k) = inl k
      shift (inr k) = inr (ap suc k.0, k.1)

  -- ---- lengths ----

  pub length_none : (l : List A) → length l ≡ 0 → l ≡ []
  length_none [] h = refl
  length_none (x ∷ l) h = absurd (omega arith)

  pub length-snoc : (l : List A) (x : A) → length (l ++ (x ∷ [])) ≡ suc (length l)
  length-snoc [] x = refl
  length-snoc (y ∷ l) x = ap suc (length-snoc l x)

  pub length_without : (i : ℕ) (l : List A) → i < length l → length l ≡ suc (length (without i l))
  unfolding without
  length_without i [] h = absurd (omega arith)
  length_without zero (x ∷ l) h = refl
  length_without (suc i) (x ∷ l) h = ap suc (length_without i l (omega arith))

  -- ---- taking out, by parts ----

  -- No proof cites it: the book takes out by turning a part of its array, and the law of that goes by cases. It stands for code that takes
  -- out by copying parts.
  pub without-parts : (i : ℕ) (l : List A) → without i l ≡ take i l ++ drop (i + 1) l
  unfolding without
  without-parts i l = rw (add-one i) (go i l)
    where
      go : (i : ℕ) (l : List A) → without i l ≡ take i l ++ drop (suc i) l
      go zero [] = refl
      go (suc i) [] = refl
      go zero (x ∷ l) = refl
      go (suc i) (x ∷ l) = ap (λ (r : List A). x ∷ r) (go i l)

  -- ---- runs of one value ----

  pub drop-replicate : (k m : ℕ) (a : A) → drop k (replicate m a) ≡ replicate (m - k) a
  drop-replicate zero m a = rw sub-zero refl
  drop-replicate (suc k) zero a = rw zero-sub refl
  drop-replicate (suc k) (suc m) a = rw suc-sub-suc (drop-replicate k m a)

  -- a run at the end of a list, one place shorter
  pub drop-one-more : (l : List A) (n m : ℕ) (a : A) → drop n l ≡ replicate m a → drop (n + 1) l ≡ replicate (m - 1) a
  drop-one-more l n m a e = sym (drop-drop 1 n l) ∙ ap (drop 1) e ∙ drop-replicate 1 m a
