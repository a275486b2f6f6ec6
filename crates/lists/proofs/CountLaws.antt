-- How many elements pass a test that knows the place they stand at: what a scan counts, and of two tests the one that lets more pass.
-- Assumes nothing.
use Prim.Native.Nat.{ℕ, zero, suc, ◌+◌, ◌≤◌, ◌<◌}
use mathlib.Core.Path.{◌≡◌, refl, sym, ap, ap₂, ◌∙◌}
use mathlib.Core.Bool.{Bool, true, false, cond}
use mathlib.Core.List.{List, [], ◌∷◌}
use native.Mathlib.Omega.{arith}
use Rattle.lists.specs.Places.{At}
use Rattle.lists.specs.Choose.{scan, counting}
use Rattle.lists.specs.Tests.{one}
use Rattle.lists.proofs.Bools.{clash}

one_more : (a b : Bool) → (a ≡ true → b ≡ true) → one a ≤ one b
one_more true true h = omega arith
one_more true false h = clash (h refl) refl
one_more false b h = omega arith

one_none : (b : Bool) → one b ≡ 0 → b ≡ false
one_none true e = absurd (omega arith)
one_none false e = refl

module _ {A : Type 0} where
  -- element by element; what stands behind the first is tested one place further on
  abbrev pub passing : (ℕ → A → Bool) → List A → ℕ
  passing test [] = 0
  passing test (x ∷ l) = one (test 0 x) + passing (λ (k : ℕ) (y : A). test (suc k) y) l

  passing-same : (p q : ℕ → A → Bool) → ((k : ℕ) (x : A) → p k x ≡ q k x) → (l : List A) → passing p l ≡ passing q l
  passing-same p q same [] = refl
  passing-same p q same (x ∷ l) =
      ap₂ (λ (a b : ℕ). a + b) (ap one (same 0 x))
      (passing-same (λ (k : ℕ) (y : A). p (suc k) y) (λ (k : ℕ) (y : A). q (suc k) y) (λ k y. same (suc k) y) l)

  counts-from : (test : ℕ → A → Bool) (n i : ℕ) (l : List A) → scan (counting test) n i l ≡ n + passing (λ (k : ℕ) (x : A). test (i + k) x) l
  unfolding scan
  counts-from test n i [] = omega arith
  counts-from test n i (x ∷ l) =
      omega (
        arith,
        counts-from test (counting test n i x) (i + 1) l,
        passing-same (λ (k : ℕ) (y : A). test (i + 1 + k) y) (λ (k : ℕ) (y : A). test (i + suc k) y) (λ k y. ap (λ (j : ℕ). test j y) (onward k)) l,
        first (test i x),
        ap (λ (j : ℕ). one (test j x)) here,
      )
    where
      onward : (k : ℕ) → i + 1 + k ≡ i + suc k
      onward k = omega arith

      here : i ≡ i + 0
      here = omega arith

      first : (b : Bool) → cond b (n + 1) n ≡ n + one b
      first true = omega arith
      first false = omega arith

  -- WHAT A SCAN COUNTS
  pub counts-passing : (test : ℕ → A → Bool) (l : List A) → scan (counting test) 0 0 l ≡ passing test l
  counts-passing test l =
      omega (arith, counts-from test 0 0 l, passing-same (λ (k : ℕ) (x : A). test (0 + k) x) test (λ k x. ap (λ (j : ℕ). test j x) (none k)) l)
    where
      none : (k : ℕ) → 0 + k ≡ k
      none k = omega arith

  -- ---- two tests ----

  -- a test that holds wherever another does lets as many pass
  pub fewer-pass : (p q : ℕ → A → Bool) (l : List A) → ((k : ℕ) (x : A) → At l k x → p k x ≡ true → q k x ≡ true) → passing p l ≤ passing q l
  fewer-pass p q [] h = omega arith
  fewer-pass p q (x ∷ l) h =
      omega (
        arith,
        one_more (p 0 x) (q 0 x) (h 0 x refl),
        fewer-pass (λ (k : ℕ) (y : A). p (suc k) y) (λ (k : ℕ) (y : A). q (suc k) y) l (λ k y a. h (suc k) y a),
      )

  -- and more, where it also lets one pass that the other stops
  pub fewer-still : (p q : ℕ → A → Bool) (l : List A) → ((k : ℕ) (x : A) → At l k x → p k x ≡ true → q k x ≡ true)
      → (i : ℕ) (z : A) → At l i z → p i z ≡ false → q i z ≡ true → passing p l < passing q l
  fewer-still p q [] h i z a stopped passed = absurd a
  fewer-still p q (x ∷ l) h zero z a stopped passed =
      omega (
        arith,
        ap (λ (y : A). one (p 0 y)) a ∙ ap one stopped,
        ap (λ (y : A). one (q 0 y)) a ∙ ap one passed,
        fewer-pass (λ (k : ℕ) (y : A). p (suc k) y) (λ (k : ℕ) (y : A). q (suc k) y) l (λ k y b. h (suc k) y b),
      )
  fewer-still p q (x ∷ l) h (suc i) z a stopped passed =
      omega (
        arith,
        one_more (p 0 x) (q 0 x) (h 0 x refl),
        fewer-still (λ (k : ℕ) (y : A). p (suc k) y) (λ (k : ℕ) (y : A). q (suc k) y) l (λ k y b. h (suc k) y b) i z a stopped passed,
      )

  -- ---- none ----

  pub none_pass : (p : ℕ → A → Bool) (l : List A) → ((k : ℕ) (x : A) → At l k x → p k x ≡ false) → passing p l ≡ 0
  none_pass p [] h = refl
  none_pass p (x ∷ l) h = omega (arith, ap one (h 0 x refl), none_pass (λ (k : ℕ) (y : A). p (suc k) y) l (λ k y a. h (suc k) y a))

  pub pass-none : (p : ℕ → A → Bool) (l : List A) → passing p l ≡ 0 → (k : ℕ) (x : A) → At l k x → p k x ≡ false
  pass-none p [] e k x a = absurd a
  pass-none p (y ∷ l) e zero x a = ap (p 0) (sym a) ∙ one_none (p 0 y) (omega arith)
  pass-none p (y ∷ l) e (suc k) x a = pass-none (λ (j : ℕ) (z : A). p (suc j) z) l (omega arith) k x a
