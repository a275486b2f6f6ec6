-- What `first` finds, with no scan in it: the law that pins the place found, and that nothing else fits.
-- Assumes nothing.
use Prim.Native.Nat.{ℕ, ◌+◌, ◌≤◌, ◌<◌}
use mathlib.Core.Path.{◌≡◌, refl, sym, subst, ap, ◌∙◌}
use mathlib.Core.Bool.{Bool, true, false, cond}
use mathlib.Core.Logic.{⊎_elim}
use mathlib.Core.List.{List, [], ◌∷◌, ◌++◌, append-nil}
use native.Mathlib.Numerals.{add-one}
use native.Mathlib.Omega.{arith}
use borrow.Author.Tests.{ltb-true, ltb-false}
use lib.Dec.{ltb}
use lib.ListN.{length}
use lib.Seq.{append_snoc}
use Rattle.lists.specs.Places.{At}
use Rattle.lists.specs.Choose.{scan, Found, nowhere, found, consider, choosing, first, lesser, never}
use Rattle.lists.proofs.Bools.{clash}
use Rattle.lists.proofs.PlaceLaws.{at_left, at_last, at_snoc, at-inside, length-snoc}

-- What a scan says of the elements read so far, kept by each turn, it says of the whole list.
module _ {A S : Type 0} (turn : S → ℕ → A → S) (Says : List A → S → Type 0)
    (more : (l : List A) (x : A) (s : S) → Says l s → Says (l ++ (x ∷ [])) (turn s (length l) x)) where
  scan-from : (l read : List A) (s : S) → Says read s → Says (read ++ l) (scan turn s (length read) l)
  unfolding scan
  scan-from [] read s h = rw append-nil h
  scan-from (x ∷ l) read s h =
      subst (λ (r : List A). Says r (scan turn (turn s (length read) x) (length read + 1) l)) (append_snoc read x l)
      (subst (λ (n : ℕ). Says ((read ++ (x ∷ [])) ++ l) (scan turn (turn s (length read) x) n l)) (length-snoc read x ∙ sym (add-one (length read)))
      (scan-from l (read ++ (x ∷ [])) (turn s (length read) x) (more read x s h)))

  pub scan-says : (s : S) → Says [] s → (l : List A) → Says l (scan turn s 0 l)
  scan-says s h l = scan-from l [] s h

module _ {A : Type 0} where
  -- none of the list passes
  pub record Nobody (test : A → Bool) (l : List A) : Type 0 where
    pub nobody : (i : ℕ) (x : A) → At l i x → test x ≡ false

  -- x, at place i, passes; of those that pass no key is less, and each that stands earlier has a greater one
  pub record Chosen (test : A → Bool) (key : A → ℕ) (l : List A) (i : ℕ) (x : A) : Type 0 where
    pub there : At l i x
    pub passes : test x ≡ true
    pub least : (k : ℕ) (z : A) → At l k z → test z ≡ true → key x ≤ key z
    pub earliest : (k : ℕ) (z : A) → At l k z → test z ≡ true → k < i → key x < key z

  abbrev pub Tells : (A → Bool) → (A → ℕ) → List A → Found A → Type 0
  Tells test key l nowhere = Nobody test l
  Tells test key l (found i x) = Chosen test key l i x

  -- there is only one such place
  pub chosen-one : {test : A → Bool} {key : A → ℕ} {l : List A} {i j : ℕ} {x y : A} → Chosen test key l i x → Chosen test key l j y → i ≡ j
  chosen-one {test} {key} {l} {i} {j} {x} {y} a b = go (ltb i j) refl (ltb j i) refl
    where
      go : (t : Bool) → ltb i j ≡ t → (u : Bool) → ltb j i ≡ u → i ≡ j
      go true e u f = absurd (omega (arith, b.earliest i x a.there a.passes (ltb-true i j e), a.least j y b.there b.passes))
      go false e true f = absurd (omega (arith, a.earliest j y b.there b.passes (ltb-true j i f), b.least i x a.there a.passes))
      go false e false f = omega (arith, ltb-false i j e, ltb-false j i f)

  -- and where one is chosen, it is not true that nobody passes: only one answer tells
  pub chosen-some : {test : A → Bool} {key : A → ℕ} {l : List A} {i : ℕ} {x : A} → Chosen test key l i x → Nobody test l → ⊥
  chosen-some {i = i} {x = x} a n = clash a.passes (n.nobody i x a.there)

  module _ (test : A → Bool) (key : A → ℕ) where
    nobody-more : (l : List A) (x : A) → Nobody test l → test x ≡ false → Nobody test (l ++ (x ∷ []))
    nobody-more l x n e = record { nobody = λ i y h. ⊎_elim (λ k. n.nobody i y k) (λ k. ap test (sym k.1) ∙ e) (at_snoc l x i y h) }

    -- the newcomer, where none passed before or it is less than the one chosen so far
    taken : (l : List A) (x : A) → test x ≡ true → ((k : ℕ) (z : A) → At l k z → test z ≡ true → key x < key z)
        → Chosen test key (l ++ (x ∷ [])) (length l) x
    taken l x e less = record {
      there = at_last l x;
      passes = e;
      least = λ k z h t. ⊎_elim (λ a. omega (arith, less k z a t)) (λ a. omega (arith, ap key a.1)) (at_snoc l x k z h);
      earliest = λ k z h t b. ⊎_elim (λ a. less k z a t) (λ a. absurd (omega (arith, a.0))) (at_snoc l x k z h);
    }

    -- the one chosen so far, where the newcomer does not pass or is not less
    kept : (l : List A) (x : A) (i : ℕ) (y : A) → Chosen test key l i y → (test x ≡ true → key y ≤ key x) → Chosen test key (l ++ (x ∷ [])) i y
    kept l x i y c not-less = record {
      there = at_left l (x ∷ []) i y c.there;
      passes = c.passes;
      least = λ k z h t. ⊎_elim (λ a. c.least k z a t) (λ a. omega (arith, not-less (ap test a.1 ∙ t), ap key a.1)) (at_snoc l x k z h);
      earliest = λ k z h t b. ⊎_elim (λ a. c.earliest k z a t b) (λ a. absurd (omega (arith, a.0, at-inside l i y c.there))) (at_snoc l x k z h);
    }

    turn-tells : (l : List A) (x : A) (b : Bool) → test x ≡ b → (f : Found A) → Tells test key l f
        → Tells test key (l ++ (x ∷ [])) (consider (lesser key) b (length l) x f)
    turn-tells l x false e nowhere h = nobody-more l x h e
    turn-tells l x false e (found i y) h = kept l x i y h (λ t. clash t e)
    turn-tells l x true e nowhere h = taken l x e (λ k z a t. clash t (h.nobody k z a))
    turn-tells l x true e (found i y) h = pick (ltb (key x) (key y)) refl
      where
        pick : (c : Bool) → ltb (key x) (key y) ≡ c → Tells test key (l ++ (x ∷ [])) (cond c (found (length l) x) (found i y))
        pick true q = taken l x e (λ k z a t. omega (arith, ltb-true (key x) (key y) q, h.least k z a t))
        pick false q = kept l x i y h (λ t. ltb-false (key x) (key y) q)

    -- WHAT `first` BY A KEY FINDS
    pub first-tells : (l : List A) → Tells test key l (first test (lesser key) l)
    unfolding first
    first-tells l =
        scan-says (choosing test (lesser key)) (Tells test key) (λ l' x f h. turn-tells l' x (test x) refl f h)
        nowhere (record { nobody = λ i x h. absurd h }) l

  -- where place alone counts, what was found stays
  pub found-stays : (test : A → Bool) (i j : ℕ) (x : A) (l : List A) → scan (choosing test never) (found i x) j l ≡ found i x
  unfolding scan
  found-stays test i j x [] = refl
  found-stays test i j x (y ∷ l) = ap (λ (f : Found A). scan (choosing test never) f (j + 1) l) (same (test y)) ∙ found-stays test i (j + 1) x l
    where
      same : (b : Bool) → consider never b j y (found i x) ≡ found i x
      same true = refl
      same false = refl
