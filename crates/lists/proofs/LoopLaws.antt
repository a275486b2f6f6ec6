-- Loops `while i < n` over the first n elements of an array. A loop's invariant is one equation, "what is left gives from here what the whole
-- gives from the start", kept in a record with laws for the start, a turn and the end.
-- Assumes nothing.
use Prim.Native.Nat.{ℕ, zero, suc, ◌+◌, ◌≤◌, ◌<◌}
use mathlib.Core.Path.{◌≡◌, refl, sym, ap, ◌∙◌}
use mathlib.Core.Bool.{Bool, true, false, ◌&&◌, ◌||◌}
use mathlib.Core.List.{List, [], ◌∷◌}
use native.Mathlib.Numerals.{add-one}
use native.Mathlib.Omega.{arith}
use lib.ListN.{length, take, drop, get_or, length-take, drop_of_length-le}
use lib.Seq.{drop-cons, get_or-take, length-take-le}
use Rattle.std.specs.List.{fold}
use Rattle.lists.specs.Tests.{all, any}
use Rattle.lists.specs.Choose.{scan}

module _ {A : Type 0} where
  -- what is left begins with the element at place i; at the end nothing is left
  pub next-left : (es : List A) (n i : ℕ) (d : A) → n ≤ length es → i < n → drop i (take n es) ≡ get_or es i d ∷ drop (i + 1) (take n es)
  next-left es n i d fits h =
      let inside : i < length (take n es) = rw length-take-le (omega arith) in
      rw (add-one, drop-cons (take n es) i d, get_or-take) refl

  pub none_left : (es : List A) (n i : ℕ) → n ≤ i → drop i (take n es) ≡ []
  none_left es n i h = let short : length (take n es) ≤ i = simp length-take (omega arith) in drop_of_length-le (take n es) short

-- ---- a loop that carries a state through all elements; s is what the state means ----

pub record Scanning {A S : Type 0} (turn : S → ℕ → A → S) (s₀ : S) (es : List A) (n : ℕ) (s : S) (i : ℕ) : Type 0 where
  pub within : i ≤ n
  pub left : scan turn s i (drop i (take n es)) ≡ scan turn s₀ 0 (take n es)

module _ {A S : Type 0} {turn : S → ℕ → A → S} {s₀ : S} {es : List A} {n : ℕ} where
  -- No proof cites the three: the loops that they served are `for` loops, folds and `position` of std now (`scan-more` and `scan-fold` below,
  -- `position-first` of book). They stand for a loop that counts its places by hand.
  pub scan-start : Scanning turn s₀ es n s₀ 0
  scan-start = record { within = omega arith; left = refl }

  pub scan-turn : {s : S} {i : ℕ} (t : S) (d : A) → Scanning turn s₀ es n s i → n ≤ length es → i < n → t ≡ turn s i (get_or es i d)
      → Scanning turn s₀ es n t (i + 1)
  unfolding scan
  scan-turn {s} {i} t d v fits h e = record {
    within = omega arith;
    left = rw e (sym (ap (scan turn s i) (next-left es n i d fits h)) ∙ v.left);
  }

  pub scan-done : {s : S} {i : ℕ} → Scanning turn s₀ es n s i → n ≤ i → s ≡ scan turn s₀ 0 (take n es)
  unfolding scan
  scan-done {s} {i} v h = sym (ap (scan turn s i) (none_left es n i h)) ∙ v.left

module _ {A S : Type 0} where
  -- the same of a loop that knows what it has read: one more is read
  scan-on : (turn : S → ℕ → A → S) (s : S) (j : ℕ) (l : List A) (i : ℕ) (d : A) → i < length l
      → scan turn s j (take (suc i) l) ≡ turn (scan turn s j (take i l)) (i + j) (get_or l i d)
  unfolding scan
  scan-on turn s j [] i d h = absurd (omega arith)
  scan-on turn s j (x ∷ l) zero d h = let place : 0 + j ≡ j = omega arith in rw place refl
  scan-on turn s j (x ∷ l) (suc i) d h =
      let place : suc i + j ≡ i + (j + 1) = omega arith in rw place (scan-on turn (turn s j x) (j + 1) l i d (omega arith))

  pub scan-more : (turn : S → ℕ → A → S) (s : S) (l : List A) (i : ℕ) (d : A) → i < length l
      → scan turn s 0 (take (i + 1) l) ≡ turn (scan turn s 0 (take i l)) i (get_or l i d)
  scan-more turn s l i d h = let place : i + 0 ≡ i = omega arith in rw add-one (rw place at (scan-on turn s 0 l i d h))

  -- turns that ask nothing of the place are a fold
  pub scan-fold : (turn : S → A → S) (s : S) (j : ℕ) (l : List A) → scan (λ (r : S) (_ : ℕ) (x : A). turn r x) s j l ≡ fold turn s l
  unfolding scan
  scan-fold turn s j [] = refl
  scan-fold turn s j (x ∷ l) = scan-fold turn (turn s x) (j + 1) l

-- ---- a loop that looks whether every element from a place on passes, and leaves at the first that does not ----

module _ {A : Type 0} (test : A → Bool) (es : List A) (n from : ℕ) where
  pub record Checking (i : ℕ) : Type 0 where
    pub within : i ≤ n
    pub left : all test (drop i (take n es)) ≡ all test (drop from (take n es))

  -- No proof cites these four: std's `all` asks it now, whose contract says so (`all-std` of soundness). They stand for a loop by hand that
  -- leaves early.
  pub check-start : from ≤ n → Checking from
  check-start h = record { within = h; left = refl }

  check-here : (i : ℕ) (d : A) → Checking i → n ≤ length es → i < n
      → (test (get_or es i d) && all test (drop (i + 1) (take n es))) ≡ all test (drop from (take n es))
  unfolding all
  check-here i d v fits h = sym (ap (all test) (next-left es n i d fits h)) ∙ v.left

  pub check-past : (i : ℕ) (d : A) → Checking i → n ≤ length es → i < n → test (get_or es i d) ≡ true → Checking (i + 1)
  check-past i d v fits h q = record { within = omega arith; left = rw q at (check-here i d v fits h) }

  pub check-fail : (i : ℕ) (d : A) → Checking i → n ≤ length es → i < n → test (get_or es i d) ≡ false → false ≡ all test (drop from (take n es))
  check-fail i d v fits h q = rw q at (check-here i d v fits h)

  pub check_done : (i : ℕ) → Checking i → n ≤ i → true ≡ all test (drop from (take n es))
  unfolding all
  check_done i v h = sym (ap (all test) (none_left es n i h)) ∙ v.left

-- ---- a loop that looks whether some element passes, and leaves at the first that does ----

module _ {A : Type 0} (test : A → Bool) (es : List A) (n : ℕ) where
  pub record Asking (i : ℕ) : Type 0 where
    pub within : i ≤ n
    pub left : any test (drop i (take n es)) ≡ any test (take n es)

  -- Nor these: std's `any` and `contains` ask it now (`any-std` of soundness). They stand for a loop by hand that leaves early.
  pub ask-start : Asking 0
  ask-start = record { within = omega arith; left = refl }

  ask-here : (i : ℕ) (d : A) → Asking i → n ≤ length es → i < n → (test (get_or es i d) || any test (drop (i + 1) (take n es))) ≡ any test (take n es)
  unfolding any
  ask-here i d v fits h = sym (ap (any test) (next-left es n i d fits h)) ∙ v.left

  pub ask-past : (i : ℕ) (d : A) → Asking i → n ≤ length es → i < n → test (get_or es i d) ≡ false → Asking (i + 1)
  ask-past i d v fits h q = record { within = omega arith; left = rw q at (ask-here i d v fits h) }

  pub ask-hit : (i : ℕ) (d : A) → Asking i → n ≤ length es → i < n → test (get_or es i d) ≡ true → true ≡ any test (take n es)
  ask-hit i d v fits h q = rw q at (ask-here i d v fits h)

  pub ask-none : (i : ℕ) → Asking i → n ≤ i → false ≡ any test (take n es)
  unfolding any
  ask-none i v h = sym (ap (any test) (none_left es n i h)) ∙ v.left
