-- A row that is filled in, one thing after the other.
-- Assumes nothing.
use Prim.Native.Nat.{ℕ, zero, suc, ◌+◌, ◌≤◌, ◌<◌}
use mathlib.Core.Path.{◌≡◌, refl, sym, ap, ◌∙◌}
use mathlib.Core.Bool.{Bool, true, false}
use mathlib.Core.List.{List}
use native.Mathlib.Omega.{arith}
use lib.Dec.{ltb}
use lib.ListN.{length, get_or, set, length-set}
use lib.Seq.{get_or-set_same, get_or-set_other, ext_get_or}
use borrow.Author.Tests.{ltb-true, ltb-false}
use Rattle.test_reading.specs.Row.{row_from, row}

module _ {A : Type 0} (d : A) (thing : ℕ → A) where
  row-length : (k n : ℕ) → length (row_from thing k n) ≡ n
  unfolding row_from
  row-length k zero = refl
  row-length k (suc n) = ap suc (row-length (k + 1) n)

  row_at : (k n i : ℕ) → i < n → get_or (row_from thing k n) i d ≡ thing (k + i)
  unfolding row_from
  row_at k zero i h = absurd (omega arith)
  row_at k (suc n) zero h = let e : k ≡ k + 0 = omega arith in ap thing e
  row_at k (suc n) (suc i) h = let e : k + 1 + i ≡ k + suc i = omega arith in row_at (k + 1) n i (omega arith) ∙ ap thing e

  -- the first i of n places have been filled
  pub record Filled (n : ℕ) (l : List A) (i : ℕ) : Type 0 where
    pub places : length l ≡ n
    pub filled : (k : ℕ) → k < i → get_or l k d ≡ thing k

  module _ {n : ℕ} {l : List A} where
    pub filled_none : length l ≡ n → Filled n l 0
    filled_none h = record { places = h; filled = λ k o. absurd (omega arith) }

    pub filled_more : {i : ℕ} {x : A} → Filled n l i → i < n → x ≡ thing i → Filled n (set l i x) (i + 1)
    filled_more {i} {x} f h same = record { places = length-set l i x ∙ f.places; filled = λ k o. go k o (ltb k i) refl }
      where
        go : (k : ℕ) → k < i + 1 → (t : Bool) → ltb k i ≡ t → get_or (set l i x) k d ≡ thing k
        go k o true q = get_or-set_other l i k x d (λ z. omega (arith, ltb-true k i q)) ∙ f.filled k (ltb-true k i q)
        go k o false q = let z : i ≡ k = omega (arith, ltb-false k i q) in rw (← z) (get_or-set_same l i x d (omega (arith, f.places)) ∙ same)

    pub filled-all : {i : ℕ} → Filled n l i → n ≤ i → l ≡ row thing n
    filled-all f h =
        ext_get_or d l (row thing n) (f.places ∙ sym (row-length 0 n))
        (λ k o. let e : k ≡ 0 + k = omega arith in f.filled k (omega (arith, f.places)) ∙ ap thing e ∙ sym (row_at 0 n k (omega (arith, f.places))))
